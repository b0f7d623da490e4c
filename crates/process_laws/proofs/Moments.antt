-- The agreement of a world with a run is carried through the moments of a group.
use Rattle.std.proofs.Common.{◌≡◌, ◌<◌, ◌≤◌, ◌^◌, ◌+◌, ◌++◌, ℕ, suc, Bool, true, false, nat_lt, ◌==◌, if◌then◌else◌, List, [], ◌∷◌, length, map, Option, None, Some, slice_get, slice_set, arith, append-nil, refl, sym, ap, ◌∙◌, subst, inl, inr}
use Rattle.std.proofs.lemmas.List.{append_assoc, length-append, length-set}
use Rattle.std.proofs.lemmas.Bool.Decides.{nat_tests}
use Rattle.protocol_laws.specs.Book.{MayCall}
use Rattle.protocol_laws.specs.Protocol.{State, Step, Begin, Ask, happens, state_after}
use Rattle.world_refinement.proofs.Agreement.{Stands, carried}
use Rattle.world_refinement.proofs.BookSteps.{begin_opens, ask_opens, line_begins, taken_within, line_ends, alike_agrees, quiet_agrees}
use Rattle.world_refinement.proofs.ChangedStores.{SparesRecords}
use Rattle.world_refinement.proofs.GivenAnswers.{parts_same}
use Rattle.world_refinement.proofs.Schedules.{TakesStep, GoesAlong, Changes, IsCarried, IsAfter, after_start}
use Rattle.world_refinement.proofs.Schedules as along
use Rattle.world_refinement.proofs.StepsInWorlds.{StepGoes, called_goes, own_fits, renewed}
use Rattle.world_refinement.proofs.WorldGrammar.{IsIntact, IsHarmless, alike_intact, changed_intact, frame_comes, is_peer, over_harmless, started_intact, stopped_harmless, taken_intact}
use Rattle.world_refinement.proofs.ChangedNodes.{frame_at, set_same}
use Rattle.world_refinement.specs.Lines.{BookAgrees, Within, Opens, calls_from, call_at}
use Rattle.world_refinement.specs.Roles.{roles_of, said_in}
use Rattle.world_refinement.specs.Worlds.{NodeFits, WorldHolds}
use Rattle.ens_base.proofs.Lists.{in_left}
use Rattle.ens_base.specs.Limits.{IsKey, IsCommand}
use Rattle.ens_base.specs.Lists.{◌∈◌, AreDistinct}
use Rattle.ens_base.specs.View.{IsPeer}
use Rattle.ens_base.specs.declared.command.Command.{Command}
use Rattle.environment.specs.Maps.{Entries}
use Rattle.protocol_laws.proofs.Replies.{run_entries}
use Rattle.role_laws.proofs.Roles.{run_roles}
use Rattle.network.specs.Mail.{MayBeSent}
use Rattle.process_laws.specs.Moments.{Moment, Starts, Takes, Spoils, IsCutOff, Found, stores_found, down_on, with_contents, happened, after, run_on}
use Rattle.process_laws.specs.Premises.{Always, IsOfPeers, IsOneProcess, FactSurvives, WasSent, IsWithinLimits, IsRunning, IsDown, kept_by, node_of}
use Rattle.peer_state.specs.declared.event.CallIn.{CallIn}
use Rattle.peer_state.specs.declared.event.Event.{Event}
use Rattle.peer_state.specs.declared.event.Event.TheVariants as events
use Rattle.peer_state.specs.declared.state.State.{State as PeerState}
use Rattle.register_model.specs.declared.call.Call.{Call}
use Rattle.protocol_laws.proofs.Noted.{run_listed}
use Rattle.schedule_text.specs.declared.event.ScheduleEvent.{ScheduleEvent}
use Rattle.schedule_text.specs.declared.event.ScheduleEvent.TheVariants as line
use Rattle.lexemes.specs.Spelling.{IsAmong}
use Rattle.step_refinement.proofs.CalledKeys.{some_few}
use Rattle.step_refinement.specs.Keys.{AreFew}
use Rattle.step_refinement.specs.Peers.{AsksFit}
use Rattle.step_refinement.specs.Steps.{asked_in}
use Rattle.role_laws.specs.Facts.{Lines, AreFirm}
use Rattle.peer_refinement.specs.WorldSpec.{HeldStores}
use Rattle.peer_refinement.specs.PeerSpec.{MayCome}
use Rattle.peer_refinement.specs.Trees.{AreAmong, AreFree}
use Rattle.wire_frames.specs.declared.frame.Frame.{Frame}
use Rattle.world_spec.proofs.Growth.{IsFurther, further_same, further_later, stepped_grows, changed_at_grows, start_grows}
use Rattle.world_spec.specs.Lines.{counted}
use Rattle.world_spec.specs.Nodes.{Node, Up, Down, over_stores, taken, started, stopped}
use Rattle.world_spec.specs.Runs.{Run, next_event, place_of, with_taken, stepped_at, stepped, changed_at, changed, start_strings, hashing, mode_at, with_start}
use Rattle.process_laws.proofs.Found.{found_holds}
use Rattle.process_laws.proofs.Lines.{line_of, lines_for}
use Rattle.process_laws.specs.Laws.{view_in, views_in}

-- ## Worlds grow

-- a moment removes no message and no string
happened_grows : (m : Moment) (w : Run) → IsFurther w (happened m w)
happened_grows (Starts p found) w = let v = changed p (down_on found) w in further_later w v (with_start p v) (changed_at_grows (slice_get w.nodes (place_of p)) p (down_on found) w) (start_grows p v)
happened_grows (Takes p event) w = stepped_grows p event w
happened_grows (Spoils p nodes objects) w = changed_at_grows (slice_get w.nodes (place_of p)) p (over_stores (with_contents nodes objects)) w
happened_grows (IsCutOff p) w = changed_at_grows (slice_get w.nodes (place_of p)) p stopped w

after_grows : (m : Moment) (w : Run) → IsFurther w (after m w)
after_grows m w = let far = happened_grows m w in record { sent = far.sent; hashed = far.hashed }

-- nor do many
pub run_grows : (ms : List Moment) (w : Run) → IsFurther w (run_on ms w)
run_grows [] w = further_same w
run_grows (m ∷ ms) w = further_later w (after m w) (run_on ms (after m w)) (after_grows m w) (run_grows ms (after m w))

-- ## Places

-- a frame that was sent has a number
sent_at : (fs : List Frame) (f : Frame) → f ∈ fs → (n : ℕ) × (slice_get fs n ≡ Some f)
sent_at [] f is = absurd is
sent_at (g ∷ fs) f (inl same) = (0, ap Some (sym same))
sent_at (g ∷ fs) f (inr later) = let there = sent_at fs f later in (suc there.0, there.1)

-- the node of a peer that runs, and of one that is down
running_node : (o : Option Node) → IsRunning o → (x : PeerState) × (stores : HeldStores) × (o ≡ Some (Up x stores))
running_node None is = absurd is
running_node (Some (Up x stores)) is = (x, stores, refl)
running_node (Some (Down stores)) is = absurd is

down_node : (o : Option Node) → IsDown o → (stores : HeldStores) × (o ≡ Some (Down stores))
down_node None is = absurd is
down_node (Some (Up x stores)) is = absurd is
down_node (Some (Down stores)) is = (stores, refl)

down_harmless : (found : Found) (p : ℕ) → IsHarmless p (down_on found)
down_harmless found p = record { own = λ node own. tt; ready = λ node ready. tt }

-- other nodes and objects leave the fact and the records of the tree
contents_spare : (nodes objects : Entries) → SparesRecords (with_contents nodes objects)
contents_spare nodes objects = record { kept = λ stores. refl; tops = λ stores. refl; root = λ stores. refl; version = λ stores. refl }

-- the world in which one more event is counted
abbrev over : Run → Run
over v = record v { events = next_event v.events }

-- the ids of these calls
abbrev ids_of : List Call → List ℕ
ids_of calls = map (λ (c : Call). c.id) calls

id_later : (n : ℕ) (done more : List ScheduleEvent) (p id : ℕ) (key : List ℕ) (command : Command) → id ∈ ids_of (calls_from n (done ++ line.Call p id key command ∷ more))
id_later n [] more p id key command = inl refl
id_later n (line.Call q i k c ∷ done) more p id key command = inr (id_later (n + 1) done more p id key command)
id_later n (_ ∷ done) more p id key command = id_later (n + 1) done more p id key command

id_fresh : (n : ℕ) (done more : List ScheduleEvent) (p id : ℕ) (key : List ℕ) (command : Command) → AreDistinct (ids_of (calls_from n (done ++ line.Call p id key command ∷ more))) → (d : Call) → d ∈ calls_from n done → d.id ≡ id → ⊥
id_fresh n [] more p id key command distinct d m same = m
id_fresh n (line.Call q i k c ∷ done) more p id key command distinct d (inl e) same =
    distinct.0 (subst (λ (j : ℕ). j ∈ ids_of (calls_from (n + 1) (done ++ line.Call p id key command ∷ more))) (sym same ∙ ap (λ (x : Call). x.id) e) (id_later (n + 1) done more p id key command))
id_fresh n (line.Call q i k c ∷ done) more p id key command distinct d (inr m) same = id_fresh (n + 1) done more p id key command distinct.1 d m same
id_fresh n (_ ∷ done) more p id key command distinct d m same = id_fresh (n + 1) done more p id key command distinct d m same

-- the id of a call is that of no call before it
abbrev IsNew : List ScheduleEvent → Moment → Type 0
IsNew done (Takes p (events.Call c)) = (d : Call) → d ∈ calls_from 1 done → d.id ≡ c.id → ⊥
IsNew done m = Unit {0}

new_moment : (done more : List ScheduleEvent) (m : Moment) → AreDistinct (ids_of (calls_from 1 (done ++ line_of m ∷ more))) → IsNew done m
new_moment done more (Takes p (events.Call c)) distinct = id_fresh 1 done more p c.id c.key c.command distinct
new_moment done more (Takes p (events.Deliver from message)) distinct = tt
new_moment done more (Takes p events.Tick) distinct = tt
new_moment done more (Takes p (events.Change asked)) distinct = tt
new_moment done more (Starts p found) distinct = tt
new_moment done more (Spoils p nodes objects) distinct = tt
new_moment done more (IsCutOff p) distinct = tt

-- the calls of the first lines are calls of all
calls_prefix : (n : ℕ) (done more : List ScheduleEvent) (c : Call) → c ∈ calls_from n done → c ∈ calls_from n (done ++ more)
calls_prefix n [] more c at = absurd at
calls_prefix n (line.Call q i k x ∷ done) more c (inl is) = inl is
calls_prefix n (line.Call q i k x ∷ done) more c (inr at) = inr (calls_prefix (n + 1) done more c at)
calls_prefix n (_ ∷ done) more c at = calls_prefix (n + 1) done more c at

-- no message has a number below the first
none_below : (n : ℕ) → nat_lt n 0 ≡ false
none_below n = grind (arith, nat_tests)

module _ (peers : ℕ) (view : List ℕ) (lines : Lines) (strings : List (List ℕ)) (sealed : lines.sealed ≡ true) (sound : AreFirm lines) (free : AreFree strings) (small : peers ≤ 31) (whole : Run) (all : AreAmong whole.hashed strings) where
  abbrev P : Run → State → Type 0
  P = Stands lines view strings

  carries : IsCarried peers lines whole P
  carries = carried lines view strings sound free peers small whole all

  -- what the world hashed so far is among the strings
  among_all : (v : Run) → IsFurther v whole → AreAmong v.hashed strings
  among_all v further x at = all x (subst (λ (xs : List (List ℕ)). x ∈ xs) (sym further.hashed.1) (in_left v.hashed further.hashed.0 x at))

  -- a step of which the world is counted further is one of the whole run
  far_taken : (w : Run) (p : ℕ) (deed : Event) (node : Node) → slice_get w.nodes (place_of p) ≡ Some node → IsFurther (record (stepped p deed w) { events = next_event w.events }) whole → IsFurther (with_taken p (taken p deed node) w) whole
  far_taken w p deed node at far = subst (λ (o : Option Node). IsFurther (stepped_at o p deed w) whole) at (record { sent = far.sent; hashed = far.hashed })

  -- ## A peer on other disks

  -- the peer is down, and its disks hold something else besides the saved fact
  refound : (p : ℕ) (new old : HeldStores) (w : Run) (s : State) → IsPeer p → slice_get w.nodes (place_of p) ≡ Some (Down old) → new.facts.kept ≡ old.facts.kept → P w s → Changes P p (Down new) w s
  refound p new old w s peer at same a = subst (λ (t : State). Changes P p (Down new) w t) a.is (at_run a.steps a.holds)
    where
      at_run : (steps : List Step) → WorldHolds lines view strings steps w → Changes P p (Down new) w (state_after view steps)
      at_run steps holds =
          let down : NodeFits w.tree lines strings w.hashed (state_after view steps) p (Down old) = own_fits w.tree w.first_alive lines view strings p peer steps w.nodes w.mail.sent w.hashed w.notes (Down old) holds.parts at in
          let g = renewed w.tree w.first_alive lines view strings p peer steps w.nodes w.mail.sent w.hashed w.notes holds.parts holds.roles w.hashed (Down old) (Down new) at refl (λ x i. i) (found_holds lines (state_after view steps) strings w.hashed p old new sealed same down) in
          record { next = state_after view g.steps; holds = record { steps = g.steps; is = refl; holds = record { parts = g.parts; roles = g.roles } }; quiet = g.quiet }

  -- ## A call of any client

  -- each call that has come keeps its limits
  asked_fit : (s : State) (c : CallIn) → IsKey c.key → IsCommand c.command → AsksFit s → AsksFit (happens s (Ask (asked_in s c)))
  asked_fit s c is_key is_command asked i = by_id (c.id == i)
    where
      by_id : (b : Bool) → (if b then true else s.book.called i) ≡ true → IsKey (if b then asked_in s c else s.book.asked i).key × IsCommand (if b then asked_in s c else s.book.asked i).command
      by_id true came = (is_key, is_command)
      by_id false came = asked i came

  call_goes : (p : ℕ) (c : CallIn) (node : Node) (w : Run) (s : State) → P w s → IsKey c.key → IsCommand c.command → MayCall s.book (asked_in s c) → TakesStep whole p (events.Call c) node w (happens s (Ask (asked_in s c))) → GoesAlong P p (taken p (events.Call c) node) w (happens s (Ask (asked_in s c)))
  call_goes p c node w s a is_key is_command = subst (λ (t : State). MayCall t.book (asked_in t c) → TakesStep whole p (events.Call c) node w (happens t (Ask (asked_in t c))) → GoesAlong P p (taken p (events.Call c) node) w (happens t (Ask (asked_in t c)))) a.is (at_run a.steps a.holds)
    where
      at_run : (steps : List Step) → WorldHolds lines view strings steps w → MayCall (state_after view steps).book (asked_in (state_after view steps) c) → TakesStep whole p (events.Call c) node w (happens (state_after view steps) (Ask (asked_in (state_after view steps) c)))
          → GoesAlong P p (taken p (events.Call c) node) w (happens (state_after view steps) (Ask (asked_in (state_after view steps) c)))
      at_run steps holds may takes = record { next = state_after view g.steps; holds = record { steps = g.steps; is = refl; holds = g.holds }; agrees = g.agrees }
        where
          t : State
          t = state_after view steps

          ask : Step
          ask = Ask (asked_in t c)

          come : WorldHolds lines view strings (ask ∷ steps) w
          come = record {
            parts = parts_same w.tree w.first_alive lines view strings steps ask w.nodes w.mail.sent w.hashed w.notes (tt, may) refl (asked_fit t c is_key is_command holds.parts.asked) refl holds.parts;
            roles = record { ghosts = holds.roles.ghosts; hash = holds.roles.hash; hold = (run_roles view steps holds.parts.run).silent holds.roles.ghosts (roles_of w.nodes) (said_in w.mail.sent) ask (tt, may) tt holds.roles.hold };
          }

          few : AreFew t.book.calls
          few = some_few t.book.calls (happens t ask).book.calls (λ d at. inr at) takes.few

          g : StepGoes lines sound view strings free p takes.peer w (ask ∷ steps) (taken p (events.Call c) node)
          g = called_goes lines sound view strings free p takes.peer w c node steps holds few takes.at may come takes.few (taken_intact p (events.Call c) node w takes.peer takes.comes takes.at takes.intact).fine.mail (among_all (with_taken p (taken p (events.Call c) node) w) takes.further)

  -- a call whose id no call before it has may come
  may_call : (done : List ScheduleEvent) (w : Run) (c : CallIn) (s : State) → P w s → BookAgrees done w s.book → ((d : Call) → d ∈ calls_from 1 done → d.id ≡ c.id → ⊥) → MayCall s.book (asked_in s c)
  may_call done w c s a agrees fresh = record { fresh = by_called (s.book.called c.id) refl; event = refl }
    where
      in_calls : s.book.called c.id ≡ true → (s.book.asked c.id ∈ s.book.calls) × ((s.book.asked c.id).id ≡ c.id)
      in_calls = subst (λ (t : State). t.book.called c.id ≡ true → (t.book.asked c.id ∈ t.book.calls) × ((t.book.asked c.id).id ≡ c.id)) a.is
          (λ called. ((run_listed view a.steps a.holds.parts.run).call_in c.id called, ((run_entries view a.steps a.holds.parts.run).calls c.id called).own_id))

      by_called : (b : Bool) → s.book.called c.id ≡ b → s.book.called c.id ≡ false
      by_called false e = e
      by_called true e = let call = in_calls e in absurd (fresh (s.book.asked c.id) ((agrees.calls (s.book.asked c.id)).0 call.0) call.1)

  -- ## One moment

  -- after these moments the world agrees with a run, and every message that was sent may come
  pub record IsAt (done : List ScheduleEvent) (w : Run) : Type 0 where
    pub agrees : IsAfter peers P done w
    pub alive : w.first_alive ≡ 0

  module _ (done : List ScheduleEvent) (event : ScheduleEvent) (few : length (done ++ event ∷ []) < 2 ^ 64) (calls : AreFew (calls_from 1 (done ++ event ∷ []))) where
    -- a moment is over
    ended : (v : Run) (s : State) → P v s → Within (done ++ event ∷ []) v s.book → length v.nodes ≡ peers → IsIntact v → v.first_alive ≡ 0 → IsAt (done ++ event ∷ []) (over v)
    ended v s holds within size intact alive = record {
      agrees = record {
        state = s;
        holds = carries.alike v (over v) s (record { view = refl; tree = refl; first_alive = refl; nodes = refl; sent = refl; printed = refl; notes = refl; hashed = refl }) holds;
        agrees = alike_agrees 0 (done ++ event ∷ []) (counted event v) (over v) s.book refl refl refl (line_ends (done ++ event ∷ []) few event v s.book within);
        size = size;
        intact = alike_intact v (over v) refl refl intact;
      };
      alive = alive;
    }

    module _ (w : Run) (is : IsAt done w) where
      abbrev here : IsAfter peers P done w
      here = is.agrees

      -- a moment without a call begins
      abbrev begun : State
      begun = happens here.state Begin

      begins : ((n : ℕ) → call_at event n [] ≡ []) → Within (done ++ event ∷ []) w begun.book
      begins none = line_begins done event w here.state.book begun.book here.agrees (subst (λ (cs : List Call). Opens cs here.state.book begun.book) (sym (none (here.state.book.now + 1))) (begin_opens here.state))

      begun_holds : P w begun
      begun_holds = carries.begins w here.state here.holds

      few_begun : (s : State) → Within (done ++ event ∷ []) w s.book → AreFew s.book.calls
      few_begun s within = some_few s.book.calls (calls_from 1 (done ++ event ∷ [])) (λ c at. (within.calls c).0 at) calls

      -- a peer took a step
      stepped_over : (p : ℕ) (deed : Event) (node : Node) (s : State) → IsPeer p → MayCome p deed → slice_get w.nodes (place_of p) ≡ Some node → Within (done ++ event ∷ []) w s.book → GoesAlong P p (taken p deed node) w s → IsAt (done ++ event ∷ []) (record (stepped p deed w) { events = next_event w.events })
      stepped_over p deed node s peer come at within g =
          subst (λ (o : Option Node). IsAt (done ++ event ∷ []) (record (stepped_at o p deed w) { events = next_event w.events })) (sym at)
          (ended (with_taken p (taken p deed node) w) g.next g.holds (taken_within (done ++ event ∷ []) few p (taken p deed node) w s.book g.next.book within g.agrees) (length-set w.nodes (place_of p) (taken p deed node).node ∙ here.size)
          (taken_intact p deed node w peer come at here.intact) is.alive)

      -- a tick
      ticked : (p : ℕ) (node : Node) → IsAmong peers p → slice_get w.nodes (place_of p) ≡ Some node → ((n : ℕ) → call_at event n [] ≡ []) → IsFurther (record (stepped p events.Tick w) { events = next_event w.events }) whole → IsAt (done ++ event ∷ []) (record (stepped p events.Tick w) { events = next_event w.events })
      ticked p node among at none far =
          let peer : IsPeer p = is_peer peers p small among in
          let within = begins none in
          stepped_over p events.Tick node begun peer tt at within
          (carries.ticks p node w begun among (record { at = at; further = far_taken w p events.Tick node at far; few = few_begun begun within; peer = peer; comes = tt; intact = here.intact }) begun_holds)

      -- a request for a view that may vote
      asked_for : (p : ℕ) (asked : List ℕ) (node : Node) → IsAmong peers p → asked ∈ lines.voting → slice_get w.nodes (place_of p) ≡ Some node → ((n : ℕ) → call_at event n [] ≡ []) → IsFurther (record (stepped p (events.Change asked) w) { events = next_event w.events }) whole
          → IsAt (done ++ event ∷ []) (record (stepped p (events.Change asked) w) { events = next_event w.events })
      asked_for p asked node among votes at none far =
          let peer : IsPeer p = is_peer peers p small among in
          let within = begins none in
          stepped_over p (events.Change asked) node begun peer tt at within
          (carries.takes_change p asked node w begun votes (record { at = at; further = far_taken w p (events.Change asked) node at far; few = few_begun begun within; peer = peer; comes = tt; intact = here.intact }) begun_holds)

      -- a message that was sent
      delivered : (f : Frame) (node : Node) → f ∈ w.mail.sent → slice_get w.nodes (place_of f.to) ≡ Some node → ((n : ℕ) → call_at event n [] ≡ []) → IsFurther (record (stepped f.to (events.Deliver f.from f.message) w) { events = next_event w.events }) whole
          → IsAt (done ++ event ∷ []) (record (stepped f.to (events.Deliver f.from f.message) w) { events = next_event w.events })
      delivered f node sent at none far =
          let there = sent_at w.mail.sent f sent in
          let may : MayBeSent f = frame_at MayBeSent w.mail.sent there.0 f there.1 here.intact.fine.mail in
          let deed : Event = events.Deliver f.from f.message in
          let within = begins none in
          stepped_over f.to deed node begun may.1 (frame_comes f may) at within
          (carries.receives there.0 f node w begun there.1 (later there.0) (record { at = at; further = far_taken w f.to deed node at far; few = few_begun begun within; peer = may.1; comes = frame_comes f may; intact = here.intact }) begun_holds)
        where
          later : (n : ℕ) → nat_lt n w.first_alive ≡ false
          later n = subst (λ (first : ℕ). nat_lt n first ≡ false) (sym is.alive) (none_below n)

      -- a call that may come
      called : (p : ℕ) (c : CallIn) (node : Node) → IsAmong peers p → IsKey c.key → IsCommand c.command → slice_get w.nodes (place_of p) ≡ Some node → call_at event (here.state.book.now + 1) [] ≡ asked_in here.state c ∷ [] → MayCall here.state.book (asked_in here.state c)
          → IsFurther (record (stepped p (events.Call c) w) { events = next_event w.events }) whole → IsAt (done ++ event ∷ []) (record (stepped p (events.Call c) w) { events = next_event w.events })
      called p c node among is_key is_command at one may far =
          let peer : IsPeer p = is_peer peers p small among in
          stepped_over p (events.Call c) node asked peer tt at within
          (call_goes p c node w here.state here.holds is_key is_command may (record { at = at; further = far_taken w p (events.Call c) node at far; few = few_begun asked within; peer = peer; comes = tt; intact = here.intact }))
        where
          asked : State
          asked = happens here.state (Ask (asked_in here.state c))

          within : Within (done ++ event ∷ []) w asked.book
          within = line_begins done event w here.state.book asked.book here.agrees (subst (λ (cs : List Call). Opens cs here.state.book asked.book) (sym one) (ask_opens here.state (asked_in here.state c)))

      -- the node of a peer changes, and the protocol goes along
      altered : (change : Node → Node) (p : ℕ) (node : Node) → IsAmong peers p → slice_get w.nodes (place_of p) ≡ Some node → IsHarmless p change → ((n : ℕ) → call_at event n [] ≡ []) → Changes P p (change node) w begun → IsAt (done ++ event ∷ []) (record (changed p change w) { events = next_event w.events })
      altered change p node among at harmless none g = subst (λ (o : Option Node). IsAt (done ++ event ∷ []) (record (changed_at o p change w) { events = next_event w.events })) (sym at)
          (ended v g.next g.holds (alike_agrees 1 (done ++ event ∷ []) w v g.next.book refl refl refl (quiet_agrees 1 (done ++ event ∷ []) w begun.book g.next.book g.quiet (begins none))) (length-set w.nodes (place_of p) (change node) ∙ here.size)
          (changed_intact change p node w harmless (is_peer peers p small among) at here.intact) is.alive)
        where
          v : Run
          v = record w { nodes = slice_set w.nodes (place_of p) (change node) }

      -- a process is cut off
      cut : (p : ℕ) (node : Node) → IsAmong peers p → slice_get w.nodes (place_of p) ≡ Some node → ((n : ℕ) → call_at event n [] ≡ []) → IsAt (done ++ event ∷ []) (record (changed p stopped w) { events = next_event w.events })
      cut p node among at none = altered stopped p node among at (stopped_harmless p) none (carries.stops p node w begun among at begun_holds)

      -- its nodes and objects become others
      spoiled : (p : ℕ) (nodes objects : Entries) (node : Node) → IsAmong peers p → slice_get w.nodes (place_of p) ≡ Some node → ((n : ℕ) → call_at event n [] ≡ []) → IsAt (done ++ event ∷ []) (record (changed p (over_stores (with_contents nodes objects)) w) { events = next_event w.events })
      spoiled p nodes objects node among at none = let f : HeldStores → HeldStores = with_contents nodes objects in
          altered (over_stores f) p node among at (over_harmless f p) none (carries.alters p f node w begun (contents_spare nodes objects) among at begun_holds)

      -- a process starts on what it finds
      started_on : (p : ℕ) (found : Found) (stores : HeldStores) → IsAmong peers p → slice_get w.nodes (place_of p) ≡ Some (Down stores) → found.fact ≡ stores.facts.kept → ((n : ℕ) → call_at event n [] ≡ []) → IsFurther (record (with_start p (changed p (down_on found) w)) { events = next_event w.events }) whole
          → IsAt (done ++ event ∷ []) (record (with_start p (changed p (down_on found) w)) { events = next_event w.events })
      started_on p found stores among at same none = subst (λ (u : Run). IsFurther (record (with_start p u) { events = next_event w.events }) whole → IsAt (done ++ event ∷ []) (record (with_start p u) { events = next_event w.events })) (sym changed_is) from_found
        where
          node : Node
          node = Down (stores_found found)

          v : Run
          v = record w { nodes = slice_set w.nodes (place_of p) node }

          peer : IsPeer p
          peer = is_peer peers p small among

          changed_is : changed p (down_on found) w ≡ v
          changed_is = ap (λ (o : Option Node). changed_at o p (down_on found) w) at

          at_v : slice_get v.nodes (place_of p) ≡ Some node
          at_v = set_same w.nodes (place_of p) node (Down stores) at

          start_is : with_start p v ≡ after_start p node v
          start_is = ap (λ (o : Option Node). hashing (start_strings (mode_at p v) v.view o) (changed_at o p (started (mode_at p v) v.view) v)) at_v

          found_along : Changes P p node w begun
          found_along = refound p (stores_found found) stores w begun peer at same begun_holds

          by : (g : Changes P p node w begun) → along.Starts P p node v g.next → IsAt (done ++ event ∷ []) (record (after_start p node v) { events = next_event w.events })
          by g h = ended (after_start p node v) h.next h.holds
              (alike_agrees 1 (done ++ event ∷ []) w (after_start p node v) h.next.book refl refl refl (quiet_agrees 1 (done ++ event ∷ []) w g.next.book h.next.book h.quiet (quiet_agrees 1 (done ++ event ∷ []) w begun.book g.next.book g.quiet (begins none))))
              (length-set v.nodes (place_of p) (started (mode_at p v) v.view node) ∙ length-set w.nodes (place_of p) node ∙ here.size)
              (started_intact p node v peer at_v (changed_intact (down_on found) p (Down stores) w (down_harmless found p) peer at here.intact)) is.alive

          from_found : IsFurther (record (with_start p v) { events = next_event w.events }) whole → IsAt (done ++ event ∷ []) (record (with_start p v) { events = next_event w.events })
          from_found far = subst (λ (u : Run). IsAt (done ++ event ∷ []) (record u { events = next_event w.events })) (sym start_is)
              (by found_along (carries.starts p node v found_along.next among at_v (further_start far) found_along.holds))
            where
              further_start : IsFurther (record (with_start p v) { events = next_event w.events }) whole → IsFurther (after_start p node v) whole
              further_start f = subst (λ (u : Run). IsFurther u whole) start_is (record { sent = f.sent; hashed = f.hashed })

  -- a view that is asked for may vote
  abbrev Votes : Moment → Type 0
  Votes (Takes p (events.Change asked)) = asked ∈ lines.voting
  Votes m = Unit {0}

  first_votes : (m : Moment) (rest : List (List ℕ)) → ((v : List ℕ) → v ∈ view_in m rest → v ∈ lines.voting) → Votes m
  first_votes (Takes p (events.Change asked)) rest votes = votes asked (inl refl)
  first_votes (Takes p (events.Call c)) rest votes = tt
  first_votes (Takes p (events.Deliver from message)) rest votes = tt
  first_votes (Takes p events.Tick) rest votes = tt
  first_votes (Starts p found) rest votes = tt
  first_votes (Spoils p nodes objects) rest votes = tt
  first_votes (IsCutOff p) rest votes = tt

  later_votes : (m : Moment) (rest : List (List ℕ)) → ((v : List ℕ) → v ∈ view_in m rest → v ∈ lines.voting) → (v : List ℕ) → v ∈ rest → v ∈ lines.voting
  later_votes (Takes p (events.Change asked)) rest votes v at = votes v (inr at)
  later_votes (Takes p (events.Call c)) rest votes v at = votes v at
  later_votes (Takes p (events.Deliver from message)) rest votes v at = votes v at
  later_votes (Takes p events.Tick) rest votes v at = votes v at
  later_votes (Starts p found) rest votes v at = votes v at
  later_votes (Spoils p nodes objects) rest votes v at = votes v at
  later_votes (IsCutOff p) rest votes v at = votes v at

  moment_over : (done : List ScheduleEvent) (m : Moment) (few : length (done ++ line_of m ∷ []) < 2 ^ 64) (calls : AreFew (calls_from 1 (done ++ line_of m ∷ []))) (w : Run) → IsAt done w → IsOfPeers peers w m → IsOneProcess w m → FactSurvives w m → WasSent w m → IsWithinLimits w m → Votes m → IsNew done m → IsFurther (after m w) whole → IsAt (done ++ line_of m ∷ []) (after m w)
  moment_over done (Starts p found) few calls w is among one fact sent limits votes new far = let d = down_node (node_of w p) one in started_on done (line.Start p) few calls w is p found d.0 among d.1 (fact ∙ ap kept_by d.1) (λ n. refl) far
  moment_over done (Takes p (events.Deliver from message)) few calls w is among one fact sent limits votes new far =
      let r = running_node (node_of w p) one in delivered done (line.Tick p 1) few calls w is (record { from = from; to = p; message = message }) (Up r.0 r.1) sent r.2 (λ n. refl) far
  moment_over done (Takes p events.Tick) few calls w is among one fact sent limits votes new far = let r = running_node (node_of w p) one in ticked done (line.Tick p 1) few calls w is p (Up r.0 r.1) among r.2 (λ n. refl) far
  moment_over done (Takes p (events.Call c)) few calls w is among one fact sent limits votes new far =
      let r = running_node (node_of w p) one in
      called done (line.Call p c.id c.key c.command) few calls w is p c (Up r.0 r.1) among limits.1 limits.2 r.2 refl (may_call done w c is.agrees.state is.agrees.holds is.agrees.agrees new) far
  moment_over done (Takes p (events.Change asked)) few calls w is among one fact sent limits votes new far = let r = running_node (node_of w p) one in asked_for done (line.Tick p 1) few calls w is p asked (Up r.0 r.1) among votes r.2 (λ n. refl) far
  moment_over done (Spoils p nodes objects) few calls w is among one fact sent limits votes new far = let r = running_node (node_of w p) one in spoiled done (line.Spoil p [] None) few calls w is p nodes objects (Up r.0 r.1) among r.2 (λ n. refl)
  moment_over done (IsCutOff p) few calls w is among one fact sent limits votes new far = let r = running_node (node_of w p) one in cut done (line.Stop p) few calls w is p (Up r.0 r.1) among r.2 (λ n. refl)

  -- many moments
  pub all_over : (done : List ScheduleEvent) (ms : List Moment) (w : Run) → length (done ++ lines_for ms) < 2 ^ 64 → AreFew (calls_from 1 (done ++ lines_for ms)) → IsAt done w → Always (IsOfPeers peers) ms w → Always IsOneProcess ms w → Always FactSurvives ms w → Always WasSent ms w → Always IsWithinLimits ms w → ((v : List ℕ) → v ∈ views_in ms → v ∈ lines.voting)
      → AreDistinct (ids_of (calls_from 1 (done ++ lines_for ms))) → IsFurther (run_on ms w) whole → IsAt (done ++ lines_for ms) (run_on ms w)
  all_over done [] w few calls is among one facts sent limits votes distinct far = subst (λ (events : List ScheduleEvent). IsAt events w) (sym (append-nil done)) is
  all_over done (m ∷ ms) w few calls is among one facts sent limits votes distinct far =
      let v : Run = after m w in
      subst (λ (events : List ScheduleEvent). IsAt events (run_on ms v)) moved
      (all_over (done ++ line_of m ∷ []) ms v (subst (λ (events : List ScheduleEvent). length events < 2 ^ 64) (sym moved) few) (subst (λ (events : List ScheduleEvent). AreFew (calls_from 1 events)) (sym moved) calls)
      (moment_over done m few_here calls_here w is among.0 one.0 facts.0 sent.0 limits.0 (first_votes m (views_in ms) votes) (new_moment done (lines_for ms) m distinct) (further_later v (run_on ms v) whole (run_grows ms v) far)) among.1 one.1 facts.1 sent.1 limits.1 (later_votes m (views_in ms) votes)
      (subst (λ (events : List ScheduleEvent). AreDistinct (ids_of (calls_from 1 events))) (sym moved) distinct) far)
    where
      moved : (done ++ line_of m ∷ []) ++ lines_for ms ≡ done ++ line_of m ∷ lines_for ms
      moved = append_assoc done (line_of m ∷ []) (lines_for ms)

      shorter : length (done ++ line_of m ∷ lines_for ms) ≡ length done + suc (length (lines_for ms)) → length (done ++ line_of m ∷ []) ≡ length done + 1 → length (done ++ line_of m ∷ []) < 2 ^ 64
      shorter e f = omega arith

      few_here : length (done ++ line_of m ∷ []) < 2 ^ 64
      few_here = shorter (length-append done (line_of m ∷ lines_for ms)) (length-append done (line_of m ∷ []))

      calls_here : AreFew (calls_from 1 (done ++ line_of m ∷ []))
      calls_here = some_few (calls_from 1 (done ++ line_of m ∷ [])) (calls_from 1 (done ++ line_of m ∷ lines_for ms))
          (λ c at. subst (λ (events : List ScheduleEvent). c ∈ calls_from 1 events) moved (calls_prefix 1 (done ++ line_of m ∷ []) (lines_for ms) c at)) calls
