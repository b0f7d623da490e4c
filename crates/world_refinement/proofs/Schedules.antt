-- A world and a run of the abstract protocol go through the lines of a schedule together, given what each
-- step of a peer, each start, and each change of its stores does to the run.
use Rattle.std.proofs.Common.{◌≡◌, ℕ, zero, suc, ◌+◌, ◌-◌, ◌<◌, ◌^◌, ◌≤◌, nat_lt, Bool, true, false, if◌then◌else◌, not, ◌||◌, ◌⊎◌, List, [], ◌∷◌, ◌++◌, length, Option, None, Some, slice_get, slice_set, arith, ap, refl, inl, inr, sym, ◌∙◌, subst}
use Rattle.std.proofs.lemmas.List.{append-nil, append_assoc, length-append, length-replicate}
use Rattle.ens_base.specs.Lists.{◌∈◌, AreDistinct}
use Rattle.ens_base.specs.View.{IsPeer}
use Rattle.ens_base.specs.declared.command.Command.{Command}
use Rattle.protocol_laws.specs.Book.{MayCall}
use Rattle.protocol_laws.specs.Protocol.{State, Step, Begin, Ask, opening, happens, IsRun, state_after}
use Rattle.protocol_laws.proofs.Replies.{run_entries}
use Rattle.peer_refinement.specs.WorldSpec.{HeldStores}
use Rattle.network.specs.Mail.{MayBeSent, goes, is_among, oldest, most_messages}
use Rattle.peer_refinement.specs.PeerSpec.{MayCome}
use Rattle.peer_state.specs.declared.event.Event.{Event}
use Rattle.peer_state.specs.declared.event.Event.TheVariants as does
use Rattle.register_model.specs.declared.call.Call.{Call}
use Rattle.register_model.specs.declared.history.History.{History}
use Rattle.history_scribe.specs.Histories.{AreHistories}
use Rattle.protocol_laws.proofs.Noted.{run_listed}
use Rattle.schedule_input.proofs.Lines.{by_change, by_revert}
use Rattle.schedule_input.specs.Premise.{is_firm, is_reverted}
use Rattle.schedule_text.specs.Forms.{is_sealed}
use Rattle.schedule_text.specs.Spelling.{MayStand, AllMayStand, call_ids}
use Rattle.schedule_text.specs.declared.event.ScheduleEvent.{ScheduleEvent}
use Rattle.schedule_text.specs.declared.form.Form.{Form}
use Rattle.schedule_text.specs.declared.event.ScheduleEvent.TheVariants as line
use Rattle.schedule_text.proofs.Ids.{id_among}
use Rattle.lexemes.specs.Spelling.{IsAmong}
use Rattle.step_refinement.proofs.CalledKeys.{calls_below, run_calls_few}
use Rattle.step_refinement.specs.Keys.{AreFew, CallsAreFew}
use Rattle.role_laws.specs.Facts.{Lines}
use Rattle.wire_frames.specs.declared.frame.Frame.{Frame}
use Rattle.world_spec.proofs.Growth.{IsFurther, further_same, further_later, ticked_grows, calmed_grows, counted_grows, run_grows, applied_same}
use Rattle.world_spec.specs.Lines.{call_of, set_of, everyone, with_loss, effect, applied, run_from, run_of_schedule}
use Rattle.world_spec.specs.Nodes.{Node, Taken, taken, started, hashed_by_start, stopped, over_stores, while_down, opening_node}
use Rattle.world_spec.specs.Runs.{Run, opening_mode, opening_run, mode_at, upgraded, may_deepen, deepened, with_deepening, place_of, with_taken, stepped, stepped_at, changed, changed_at, start_strings, hashing, with_start, ticked, received, without_waiting, received_if, delivered, delivered_if, going_on, calmed}
use Rattle.world_spec.specs.Stores.{failing, leaves_of, spoiled, segment_spoiled, inner_spoiled, taken_back}
use Rattle.world_refinement.specs.Lines.{lines_of, MayBeReverted, AreLegal, call_at, calls_from, BookAgrees, Within, Opens, StepAgrees, IsQuiet}
use Rattle.world_refinement.proofs.ChangedStores.{SparesRecords, failing_spares, spoiled_spares, segment_spares, inner_spares}
use Rattle.world_refinement.proofs.Histories.{histories_are_legal_of}
use Rattle.world_refinement.proofs.WorldGrammar.{IsIntact, IsHarmless, stopped_harmless, over_harmless, while_down_harmless, is_peer, frame_comes, taken_intact, changed_intact, started_intact, alike_intact, opening_intact}
use Rattle.world_refinement.proofs.BookSteps.{begin_opens, ask_opens, opening_agrees, line_begins, taken_within, line_ends, alike_agrees, quiet_agrees}
use Rattle.world_refinement.proofs.ChangedNodes.{frame_at}

-- ## What is asked of the steps of peers

-- the state is that of a run
pub record IsInRun (s : State) : Type 0 where
  pub view : List ℕ
  pub steps : List Step
  pub run : IsRun view steps
  pub is : state_after view steps ≡ s

-- the worlds differ only in which messages wait, and in what they have counted
pub record AreAlike (w v : Run) : Type 0 where
  pub view : v.view ≡ w.view
  pub tree : v.tree ≡ w.tree
  pub first_alive : v.first_alive ≡ w.first_alive
  pub nodes : v.nodes ≡ w.nodes
  pub sent : v.mail.sent ≡ w.mail.sent
  pub printed : v.printed ≡ w.printed
  pub notes : v.notes ≡ w.notes
  pub hashed : v.hashed ≡ w.hashed

-- the peer takes a step on the event: its node is this one, the whole run goes on from the world after
-- the step, and few calls came
pub record TakesStep (whole : Run) (p : ℕ) (event : Event) (node : Node) (w : Run) (s : State) : Type 0 where
  pub at : slice_get w.nodes (place_of p) ≡ Some node
  pub further : IsFurther (with_taken p (taken p event node) w) whole
  pub few : AreFew s.book.calls
  pub peer : IsPeer p
  pub comes : MayCome p event
  pub intact : IsIntact w

-- the abstract protocol goes along with the step of a peer
pub record GoesAlong (P : Run → State → Type 0) (p : ℕ) (t : Taken) (w : Run) (s : State) : Type 0 where
  pub next : State
  pub holds : P (with_taken p t w) next
  pub agrees : StepAgrees t s.book next.book

-- the abstract protocol goes along as the node of a peer becomes this one
pub record Changes (P : Run → State → Type 0) (p : ℕ) (new : Node) (w : Run) (s : State) : Type 0 where
  pub next : State
  pub holds : P (record w { nodes = slice_set w.nodes (place_of p) new }) next
  pub quiet : IsQuiet s.book next.book

-- the world after the peer with this node has started
abbrev pub after_start : ℕ → Node → Run → Run
after_start p node w = hashing (hashed_by_start (mode_at p w) w.view node) (record w { nodes = slice_set w.nodes (place_of p) (started (mode_at p w) w.view node) })

-- the abstract protocol goes along as a peer starts
pub record Starts (P : Run → State → Type 0) (p : ℕ) (node : Node) (w : Run) (s : State) : Type 0 where
  pub next : State
  pub holds : P (after_start p node w) next
  pub quiet : IsQuiet s.book next.book

-- a call comes as the next event
abbrev pub next_call : State → ℕ → List ℕ → Command → Call
next_call s id key command = record { id = id; key = key; command = command; event = s.book.now + 1 }

-- ## What the lines of a schedule say

-- a line reverts no firm peer unless every peer has a seal, and each view that a line asks for may vote
abbrev pub IsOfLines : Lines → ScheduleEvent → Type 0
IsOfLines lines (line.Change p view) = view ∈ lines.voting
IsOfLines lines (line.Revert p changes) = MayBeReverted lines p
IsOfLines lines other = Unit {0}

-- the same of each line
abbrev pub AreOfLines : Lines → List ScheduleEvent → Type 0
AreOfLines lines [] = Unit {0}
AreOfLines lines (event ∷ more) = IsOfLines lines event × AreOfLines lines more

is_of_lines : (form : Form) (view : List ℕ) (events : List ScheduleEvent) (event : ScheduleEvent) → event ∈ events → IsOfLines (lines_of form view events) event
is_of_lines form view events (line.Change p asked) at = inr (by_change p asked events at)
is_of_lines form view events (line.Revert p changes) at = by (is_sealed form) refl
  where
    by : (seals : Bool) → is_sealed form ≡ seals → (is_sealed form ≡ true) ⊎ (is_firm form events p ≡ false)
    by true is = inl is
    by false is = inr (ap (λ b. b || not (is_reverted events p)) is ∙ ap not (by_revert p changes events at))
is_of_lines form view events _ at = tt

some_of_lines : (form : Form) (view : List ℕ) (events some : List ScheduleEvent) → ((event : ScheduleEvent) → event ∈ some → event ∈ events) → AreOfLines (lines_of form view events) some
some_of_lines form view events [] among = tt
some_of_lines form view events (event ∷ more) among = (is_of_lines form view events event (among event (inl refl)), some_of_lines form view events more (λ later at. among later (inr at)))

-- so it is with the lines themselves
pub are_of_lines : (form : Form) (view : List ℕ) (events : List ScheduleEvent) → AreOfLines (lines_of form view events) events
are_of_lines form view events = some_of_lines form view events events (λ event at. at)

-- A relation of worlds and states is carried through the lines of a schedule: through the begin of an
-- event, each step of a peer, each stop and start, each deepening of all trees, each change of stores that
-- spares the top records, each string that a line hashes, and each revert of a tree.
pub record IsCarried (peers : ℕ) (lines : Lines) (whole : Run) (P : Run → State → Type 0) : Type 0 where
  pub run : (w : Run) (s : State) → P w s → IsInRun s
  pub alike : (w v : Run) (s : State) → AreAlike w v → P w s → P v s
  pub begins : (w : Run) (s : State) → P w s → P w (happens s Begin)
  pub ticks : (p : ℕ) (node : Node) (w : Run) (s : State) → IsAmong peers p → TakesStep whole p does.Tick node w s → P w s → GoesAlong P p (taken p does.Tick node) w s
  pub receives : (n : ℕ) (f : Frame) (node : Node) (w : Run) (s : State) → slice_get w.mail.sent n ≡ Some f → nat_lt n w.first_alive ≡ false → TakesStep whole f.to (does.Deliver f.from f.message) node w s → P w s → GoesAlong P f.to (taken f.to (does.Deliver f.from f.message) node) w s
  pub takes_call : (p id : ℕ) (key : List ℕ) (command : Command) (node : Node) (w : Run) (s : State) → MayStand peers (line.Call p id key command) → MayCall s.book (next_call s id key command)
      → TakesStep whole p (does.Call (call_of id key command)) node w (happens s (Ask (next_call s id key command))) → P w s → GoesAlong P p (taken p (does.Call (call_of id key command)) node) w (happens s (Ask (next_call s id key command)))
  pub takes_change : (p : ℕ) (asked : List ℕ) (node : Node) (w : Run) (s : State) → asked ∈ lines.voting → TakesStep whole p (does.Change asked) node w s → P w s → GoesAlong P p (taken p (does.Change asked) node) w s
  pub stops : (p : ℕ) (node : Node) (w : Run) (s : State) → IsAmong peers p → slice_get w.nodes (place_of p) ≡ Some node → P w s → Changes P p (stopped node) w s
  pub starts : (p : ℕ) (node : Node) (w : Run) (s : State) → IsAmong peers p → slice_get w.nodes (place_of p) ≡ Some node → IsFurther (after_start p node w) whole → P w s → Starts P p node w s
  pub deepens : (w : Run) (s : State) → may_deepen w ≡ true → P w s → P (deepened w) s
  pub hashes : (strings : List (List ℕ)) (w : Run) (s : State) → P w s → P (hashing strings w) s
  pub alters : (p : ℕ) (f : HeldStores → HeldStores) (node : Node) (w : Run) (s : State) → SparesRecords f → IsAmong peers p → slice_get w.nodes (place_of p) ≡ Some node → P w s → Changes P p (over_stores f node) w s
  pub reverts : (p changes : ℕ) (node : Node) (w : Run) (s : State) → MayBeReverted lines p → IsAmong peers p → slice_get w.nodes (place_of p) ≡ Some node → P w s → Changes P p (while_down (taken_back changes) node) w s

-- no more calls came than events
few_in_run : (s : State) → IsInRun s → CallsAreFew s
few_in_run s r = subst CallsAreFew r.is (run_calls_few r.view r.steps r.run)

-- fewer than 2^32 events have numbers of eight bytes
wide : (n : ℕ) → n < 2 ^ 32 → n < 2 ^ 64
wide n less = omega (arith, less)

-- ## Ids of calls

pub id_called : (n : ℕ) (events : List ScheduleEvent) (c : Call) → c ∈ calls_from n events → c.id ∈ call_ids events
id_called n [] c m = absurd m
id_called n (line.Call peer id key command ∷ more) c (inl e) = inl (ap (λ (d : Call). d.id) e)
id_called n (line.Call peer id key command ∷ more) c (inr m) = inr (id_called (n + 1) more c m)
id_called n (_ ∷ more) c m = id_called (n + 1) more c m

-- the id of a call line is not that of a line before it
abbrev pub IsFresh : List ScheduleEvent → ScheduleEvent → Type 0
IsFresh done (line.Call peer id key command) = id ∈ call_ids done → ⊥
IsFresh done other = Unit {0}

fresh_call : (done more : List ScheduleEvent) (peer id : ℕ) (key : List ℕ) (command : Command) → AreDistinct (call_ids (done ++ line.Call peer id key command ∷ more)) → id ∈ call_ids done → ⊥
fresh_call [] more peer id key command distinct m = m
fresh_call (line.Call p i k c ∷ done) more peer id key command distinct (inl e) = distinct.0 (subst (λ (j : ℕ). j ∈ call_ids (done ++ line.Call peer id key command ∷ more)) e (id_among done more peer id key command))
fresh_call (line.Call p i k c ∷ done) more peer id key command distinct (inr m) = fresh_call done more peer id key command distinct.1 m
fresh_call (_ ∷ done) more peer id key command distinct m = fresh_call done more peer id key command distinct m

fresh_line : (done more : List ScheduleEvent) (event : ScheduleEvent) → AreDistinct (call_ids (done ++ event ∷ more)) → IsFresh done event
fresh_line done more (line.Call peer id key command) distinct = fresh_call done more peer id key command distinct
fresh_line done more _ distinct = tt

-- a call with a fresh id may come
may_call : (done : List ScheduleEvent) (w : Run) (s : State) (id : ℕ) (key : List ℕ) (command : Command) → IsInRun s → BookAgrees done w s.book → (id ∈ call_ids done → ⊥) → MayCall s.book (next_call s id key command)
may_call done w s id key command reached agrees fresh = record { fresh = by_called (s.book.called id) refl; event = refl }
  where
    in_calls : IsInRun s → s.book.called id ≡ true → (s.book.asked id ∈ s.book.calls) × ((s.book.asked id).id ≡ id)
    in_calls r h = subst (λ (t : State). t.book.called id ≡ true → (t.book.asked id ∈ t.book.calls) × ((t.book.asked id).id ≡ id)) r.is
        (λ called. ((run_listed r.view r.steps r.run).call_in id called, ((run_entries r.view r.steps r.run).calls id called).own_id)) h

    by_called : (b : Bool) → s.book.called id ≡ b → s.book.called id ≡ false
    by_called false e = e
    by_called true e =
        let call = in_calls reached e in
        absurd (fresh (subst (λ (i : ℕ). i ∈ call_ids done) call.1 (id_called 1 done (s.book.asked id) ((agrees.calls (s.book.asked id)).0 call.0))))

-- ## Through a line

-- a node at each place
pub node_at : {A : Type 0} (xs : List A) (p : ℕ) → p < length xs → (x : A) × (slice_get xs p ≡ Some x)
node_at [] p h = absurd (omega arith)
node_at (x ∷ xs) zero h = (x, refl)
node_at (x ∷ xs) (suc p) h = node_at xs p (omega arith)

-- in the middle of the last of these lines
record Reached (P : Run → State → Type 0) (events : List ScheduleEvent) (w : Run) : Type 0 where
  state : State
  holds : P w state
  within : Within events w state.book
  intact : IsIntact w

-- after these lines
pub record IsAfter (peers : ℕ) (P : Run → State → Type 0) (events : List ScheduleEvent) (w : Run) : Type 0 where
  pub state : State
  pub holds : P w state
  pub agrees : BookAgrees events w state.book
  pub size : length w.nodes ≡ peers
  pub intact : IsIntact w

module _ (peers : ℕ) (lines : Lines) (whole : Run) (P : Run → State → Type 0) (carried : IsCarried peers lines whole P) (small : peers ≤ 31) where
  module _ (events : List ScheduleEvent) (few : length events < 2 ^ 32) where
    -- fewer calls came than the line has for a number
    few_begun : (w : Run) (a : Reached P events w) → AreFew a.state.book.calls
    few_begun w a = calls_below a.state.book.calls (below (length a.state.book.calls) a.state.book.now (length events) (few_in_run a.state (carried.run w a.state a.holds)) a.within.now few)
      where
        below : (c n m : ℕ) → c ≤ n → n ≡ m → m < 2 ^ 32 → c < 2 ^ 32
        below c n m less same few = omega (arith, less, same, few)

    stepped_reached : (p : ℕ) (event : Event) (w : Run) → IsPeer p → MayCome p event → ((node : Node) (s : State) → TakesStep whole p event node w s → P w s → GoesAlong P p (taken p event node) w s) → IsFurther (stepped p event w) whole → Reached P events w → Reached P events (stepped p event w)
    stepped_reached p event w peer come along far a = by_node (slice_get w.nodes (place_of p)) refl far
      where
        by_step : (node : Node) → slice_get w.nodes (place_of p) ≡ Some node → GoesAlong P p (taken p event node) w a.state → Reached P events (with_taken p (taken p event node) w)
        by_step node at g = record { state = g.next; holds = g.holds; within = taken_within events (wide (length events) few) p (taken p event node) w a.state.book g.next.book a.within g.agrees; intact = taken_intact p event node w peer come at a.intact }

        by_node : (o : Option Node) → slice_get w.nodes (place_of p) ≡ o → IsFurther (stepped_at o p event w) whole → Reached P events (stepped_at o p event w)
        by_node None at far = a
        by_node (Some node) at far = by_step node at (along node a.state (record { at = at; further = far; few = few_begun w a; peer = peer; comes = come; intact = a.intact }) a.holds)

    ticked_reached : (p : ℕ) → IsAmong peers p → (n : ℕ) (w : Run) → IsFurther (ticked p n w) whole → Reached P events w → Reached P events (ticked p n w)
    unfolding ticked
    ticked_reached p among zero w far a = a
    ticked_reached p among (suc n) w far a =
        let v = stepped p does.Tick w in
        ticked_reached p among n v far (stepped_reached p does.Tick w (is_peer peers p small among) tt (λ node s. carried.ticks p node w s among) (further_later v (ticked p n v) whole (ticked_grows p n v) far) a)

    alike_reached : (w v : Run) → AreAlike w v → v.events ≡ w.events → Reached P events w → Reached P events v
    alike_reached w v alike count a = record { state = a.state; holds = carried.alike w v a.state alike a.holds; within = alike_agrees 1 events w v a.state.book count alike.notes alike.printed a.within; intact = alike_intact w v alike.nodes alike.sent a.intact }

    delivered_reached : (n : ℕ) (w : Run) → IsFurther (delivered n w) whole → Reached P events w → Reached P events (delivered n w)
    delivered_reached n w far a = by_frame (slice_get w.mail.sent n) refl far
      where
        by_frame : (o : Option Frame) → slice_get w.mail.sent n ≡ o → IsFurther (received_if o n w) whole → Reached P events (received_if o n w)
        by_frame None at far = a
        by_frame (Some f) at far = by_life (nat_lt n w.first_alive) refl far
          where
            waits_no_more : Reached P events (without_waiting n w)
            waits_no_more = alike_reached w (without_waiting n w) (record { view = refl; tree = refl; first_alive = refl; nodes = refl; sent = refl; printed = refl; notes = refl; hashed = refl }) refl a

            by_life : (lost : Bool) → nat_lt n w.first_alive ≡ lost → IsFurther (if lost then without_waiting n w else received f n w) whole → Reached P events (if lost then without_waiting n w else received f n w)
            by_life true is far = waits_no_more
            by_life false is far =
                let may : MayBeSent f = frame_at MayBeSent w.mail.sent n f at a.intact.fine.mail in
                stepped_reached f.to (does.Deliver f.from f.message) (without_waiting n w) may.1 (frame_comes f may) (λ node s. carried.receives n f node (without_waiting n w) s at is) far waits_no_more

    delivered_if_reached : (o : Option ℕ) (w : Run) → IsFurther (delivered_if o w) whole → Reached P events w → Reached P events (delivered_if o w)
    delivered_if_reached None w far a = a
    delivered_if_reached (Some n) w far a = delivered_reached n w far a

    calmed_reached : (members : List Bool) (n : ℕ) (w : Run) → IsFurther (calmed members n w) whole → Reached P events w → Reached P events (calmed members n w)
    unfolding calmed
    calmed_reached members zero w far a = a
    calmed_reached members (suc n) w far a = by_oldest (oldest (is_among members) w.mail) (λ v. calmed_reached members n v) far
      where
        by_oldest : (o : Option ℕ) → ((v : Run) → IsFurther (calmed members n v) whole → Reached P events v → Reached P events (calmed members n v)) → IsFurther (going_on o (λ v. calmed members n v) w) whole → Reached P events (going_on o (λ v. calmed members n v) w)
        by_oldest None rest far = a
        by_oldest (Some m) rest far =
            let v = delivered m w in
            rest v far (delivered_reached m w (further_later v (calmed members n v) whole (calmed_grows members n v) far) a)

    changed_reached : (p : ℕ) (change : Node → Node) → IsAmong peers p → IsHarmless p change → ((node : Node) (w : Run) (s : State) → slice_get w.nodes (place_of p) ≡ Some node → P w s → Changes P p (change node) w s) → (w : Run) → Reached P events w → Reached P events (changed p change w)
    changed_reached p change among harmless along w a = by_node (slice_get w.nodes (place_of p)) refl
      where
        by_change : (node : Node) → slice_get w.nodes (place_of p) ≡ Some node → Changes P p (change node) w a.state → Reached P events (record w { nodes = slice_set w.nodes (place_of p) (change node) })
        by_change node at g =
            let v : Run = record w { nodes = slice_set w.nodes (place_of p) (change node) } in
            record { state = g.next; holds = g.holds; within = alike_agrees 1 events w v g.next.book refl refl refl (quiet_agrees 1 events w a.state.book g.next.book g.quiet a.within); intact = changed_intact change p node w harmless (is_peer peers p small among) at a.intact }

        by_node : (o : Option Node) → slice_get w.nodes (place_of p) ≡ o → Reached P events (changed_at o p change w)
        by_node None at = a
        by_node (Some node) at = by_change node at (along node w a.state at a.holds)

    -- a peer starts, if there is such a peer
    start_reached : (p : ℕ) → IsAmong peers p → (w : Run) → IsFurther (with_start p w) whole → Reached P events w → Reached P events (with_start p w)
    start_reached p among w far a = by_node (slice_get w.nodes (place_of p)) refl far
      where
        by_start : (node : Node) → slice_get w.nodes (place_of p) ≡ Some node → Starts P p node w a.state → Reached P events (after_start p node w)
        by_start node at g = record {
          state = g.next;
          holds = g.holds;
          within = alike_agrees 1 events w (after_start p node w) g.next.book refl refl refl (quiet_agrees 1 events w a.state.book g.next.book g.quiet a.within);
          intact = started_intact p node w (is_peer peers p small among) at a.intact;
        }

        by_node : (o : Option Node) → slice_get w.nodes (place_of p) ≡ o → IsFurther (hashing (start_strings (mode_at p w) w.view o) (changed_at o p (started (mode_at p w) w.view) w)) whole → Reached P events (hashing (start_strings (mode_at p w) w.view o) (changed_at o p (started (mode_at p w) w.view) w))
        by_node None at far = alike_reached w (hashing [] w) (record { view = refl; tree = refl; first_alive = refl; nodes = refl; sent = refl; printed = refl; notes = refl; hashed = append-nil w.hashed }) refl a
        by_node (Some node) at far = by_start node at (carried.starts p node w a.state among at far a.holds)

    -- all trees get version two, if they may
    deepened_reached : (w : Run) → Reached P events w → Reached P events (with_deepening w)
    deepened_reached w a = by (may_deepen w) refl
      where
        by : (b : Bool) → may_deepen w ≡ b → Reached P events (if b then deepened w else w)
        by true is = record { state = a.state; holds = carried.deepens w a.state is a.holds; within = alike_agrees 1 events w (deepened w) a.state.book refl refl refl a.within; intact = alike_intact w (deepened w) refl refl a.intact }
        by false is = a

  module _ (done : List ScheduleEvent) (event : ScheduleEvent) (few : length (done ++ event ∷ []) < 2 ^ 32) (w : Run) (a : IsAfter peers P done w) where
    -- a line without a call begins
    begun : ((n : ℕ) → call_at event n [] ≡ []) → Reached P (done ++ event ∷ []) w
    begun none = record {
      state = happens a.state Begin;
      holds = carried.begins w a.state a.holds;
      within = line_begins done event w a.state.book (happens a.state Begin).book a.agrees (subst (λ (cs : List Call). Opens cs a.state.book (happens a.state Begin).book) (sym (none (a.state.book.now + 1))) (begin_opens a.state));
      intact = a.intact;
    }

    -- the world has counted the line
    line_over : Reached P (done ++ event ∷ []) (effect event w) → IsAfter peers P (done ++ event ∷ []) (applied event w)
    line_over r = record {
      state = r.state;
      holds = carried.alike (effect event w) (applied event w) r.state (record { view = refl; tree = refl; first_alive = refl; nodes = refl; sent = refl; printed = refl; notes = refl; hashed = refl }) r.holds;
      agrees = line_ends (done ++ event ∷ []) (wide (length (done ++ event ∷ [])) few) event (effect event w) r.state.book r.within;
      size = applied_same event w ∙ a.size;
      intact = alike_intact (effect event w) (applied event w) refl refl r.intact;
    }

  -- a call line
  call_reached : (done : List ScheduleEvent) (p id : ℕ) (key : List ℕ) (command : Command) (few : length (done ++ line.Call p id key command ∷ []) < 2 ^ 32) (w : Run) (a : IsAfter peers P done w) → MayStand peers (line.Call p id key command) → (id ∈ call_ids done → ⊥)
      → IsFurther (stepped p (does.Call (call_of id key command)) w) whole → Reached P (done ++ line.Call p id key command ∷ []) (stepped p (does.Call (call_of id key command)) w)
  call_reached done p id key command few w a may fresh far = by_node (slice_get w.nodes (place_of p)) refl far
    where
      c : Call
      c = next_call a.state id key command

      asked : State
      asked = happens a.state (Ask c)

      within : Within (done ++ line.Call p id key command ∷ []) w asked.book
      within = line_begins done (line.Call p id key command) w a.state.book asked.book a.agrees (ask_opens a.state c)

      few_begun_here : AreFew asked.book.calls
      few_begun_here = calls_below asked.book.calls (below (length a.state.book.calls) a.state.book.now (length (done ++ line.Call p id key command ∷ [])) (few_in_run a.state (carried.run w a.state a.holds)) within.now few)
        where
          below : (c n m : ℕ) → c ≤ n → n + 1 ≡ m → m < 2 ^ 32 → suc c < 2 ^ 32
          below c n m less same few = omega (arith, less, same, few)

      placed : 1 ≤ p → p ≤ peers → length w.nodes ≡ peers → place_of p < length w.nodes
      placed low high size = omega arith

      none : slice_get w.nodes (place_of p) ≡ None → (node : Node) × (slice_get w.nodes (place_of p) ≡ Some node) → ⊥
      none at there = let both : None ≡ Some there.0 = sym at ∙ there.1 in cc

      peer : IsPeer p
      peer = is_peer peers p small may.0

      by_step : (node : Node) → slice_get w.nodes (place_of p) ≡ Some node → GoesAlong P p (taken p (does.Call (call_of id key command)) node) w asked → Reached P (done ++ line.Call p id key command ∷ []) (with_taken p (taken p (does.Call (call_of id key command)) node) w)
      by_step node at g = record { state = g.next; holds = g.holds; within = taken_within (done ++ line.Call p id key command ∷ []) (wide (length (done ++ line.Call p id key command ∷ [])) few) p (taken p (does.Call (call_of id key command)) node) w asked.book g.next.book within g.agrees; intact = taken_intact p (does.Call (call_of id key command)) node w peer tt at a.intact }

      by_node : (o : Option Node) → slice_get w.nodes (place_of p) ≡ o → IsFurther (stepped_at o p (does.Call (call_of id key command)) w) whole → Reached P (done ++ line.Call p id key command ∷ []) (stepped_at o p (does.Call (call_of id key command)) w)
      by_node None at far = absurd (none at (node_at w.nodes (place_of p) (placed may.0.first may.0.last a.size)))
      by_node (Some node) at far = by_step node at (carried.takes_call p id key command node w a.state may (may_call done w a.state id key command (carried.run w a.state a.holds) a.agrees fresh) (record { at = at; further = far; few = few_begun_here; peer = peer; comes = tt; intact = a.intact }) a.holds)

  -- strings are hashed
  hashed_reached : (events : List ScheduleEvent) (xs : List (List ℕ)) (w : Run) → Reached P events w → Reached P events (hashing xs w)
  hashed_reached events xs w a = record {
    state = a.state;
    holds = carried.hashes xs w a.state a.holds;
    within = alike_agrees 1 events w (hashing xs w) a.state.book refl refl refl a.within;
    intact = alike_intact w (hashing xs w) refl refl a.intact;
  }

  -- a line that changes stores, but for the top records
  altered_reached : (events : List ScheduleEvent) (few : length events < 2 ^ 32) (p : ℕ) (f : HeldStores → HeldStores) → SparesRecords f → IsAmong peers p → (w : Run) → Reached P events w → Reached P events (changed p (over_stores f) w)
  altered_reached events few p f spares among w = changed_reached events few p (over_stores f) among (over_harmless f p) (λ node v s. carried.alters p f node v s spares among) w

  effect_reached : (done : List ScheduleEvent) (event : ScheduleEvent) (few : length (done ++ event ∷ []) < 2 ^ 32) (w : Run) → IsAfter peers P done w → IsOfLines lines event → MayStand peers event → IsFresh done event → IsFurther (effect event w) whole → Reached P (done ++ event ∷ []) (effect event w)
  effect_reached done (line.Call p id key command) few w a says may fresh far = call_reached done p id key command few w a may fresh far
  effect_reached done (line.Tick p ticks) few w a says may fresh far = ticked_reached (done ++ line.Tick p ticks ∷ []) few p may.0 ticks w far (begun done (line.Tick p ticks) few w a (λ n. refl))
  effect_reached done (line.Deliver message) few w a says may fresh far = delivered_reached (done ++ line.Deliver message ∷ []) few (message - 1) w far (begun done (line.Deliver message) few w a (λ n. refl))
  effect_reached done (line.Pass sender receiver) few w a says may fresh far = delivered_if_reached (done ++ line.Pass sender receiver ∷ []) few (oldest (goes sender receiver) w.mail) w far (begun done (line.Pass sender receiver) few w a (λ n. refl))
  effect_reached done (line.Lose sender receiver) few w a says may fresh far =
      alike_reached (done ++ line.Lose sender receiver ∷ []) few w (with_loss sender receiver w) (record { view = refl; tree = refl; first_alive = refl; nodes = refl; sent = refl; printed = refl; notes = refl; hashed = refl }) refl (begun done (line.Lose sender receiver) few w a (λ n. refl))
  effect_reached done line.Calm few w a says may fresh far = calmed_reached (done ++ line.Calm ∷ []) few everyone most_messages w far (begun done line.Calm few w a (λ n. refl))
  effect_reached done (line.CalmAmong members) few w a says may fresh far = calmed_reached (done ++ line.CalmAmong members ∷ []) few (set_of members) most_messages w far (begun done (line.CalmAmong members) few w a (λ n. refl))
  effect_reached done (line.Change p view) few w a says may fresh far =
      stepped_reached (done ++ line.Change p view ∷ []) few p (does.Change view) w (is_peer peers p small may.0) tt (λ node s. carried.takes_change p view node w s says) far (begun done (line.Change p view) few w a (λ n. refl))
  effect_reached done (line.Stop p) few w a says may fresh far = changed_reached (done ++ line.Stop p ∷ []) few p stopped may (stopped_harmless p) (λ node v s. carried.stops p node v s may) w (begun done (line.Stop p) few w a (λ n. refl))
  effect_reached done (line.Start p) few w a says may fresh far = start_reached (done ++ line.Start p ∷ []) few p may w far (begun done (line.Start p) few w a (λ n. refl))
  effect_reached done (line.Upgrade p) few w a says may fresh far =
      alike_reached (done ++ line.Upgrade p ∷ []) few w (upgraded p w) (record { view = refl; tree = refl; first_alive = refl; nodes = refl; sent = refl; printed = refl; notes = refl; hashed = refl }) refl (begun done (line.Upgrade p) few w a (λ n. refl))
  effect_reached done line.Deepen few w a says may fresh far = deepened_reached (done ++ line.Deepen ∷ []) few w (begun done line.Deepen few w a (λ n. refl))
  effect_reached done (line.Spoil p key bytes) few w a says may fresh far = altered_reached (done ++ line.Spoil p key bytes ∷ []) few p (spoiled key bytes) (spoiled_spares key bytes) may.0 w (begun done (line.Spoil p key bytes) few w a (λ n. refl))
  effect_reached done (line.Damage p key bytes) few w a says may fresh far =
      hashed_reached (done ++ line.Damage p key bytes ∷ []) (key ∷ []) (changed p (over_stores (segment_spoiled key bytes)) w)
      (altered_reached (done ++ line.Damage p key bytes ∷ []) few p (segment_spoiled key bytes) (segment_spares key bytes) may.0 w (begun done (line.Damage p key bytes) few w a (λ n. refl)))
  effect_reached done (line.Inner p level index bytes) few w a says may fresh far =
      altered_reached (done ++ line.Inner p level index bytes ∷ []) few p (inner_spoiled level index bytes) (inner_spares level index bytes) may.0 w (begun done (line.Inner p level index bytes) few w a (λ n. refl))
  effect_reached done (line.Revert p changes) few w a says may fresh far =
      changed_reached (done ++ line.Revert p changes ∷ []) few p (while_down (taken_back changes)) may.0 (while_down_harmless (taken_back changes) p) (λ node v s. carried.reverts p changes node v s says may.0) w (begun done (line.Revert p changes) few w a (λ n. refl))
  effect_reached done (line.Fail p store survivor) few w a says may fresh far =
      altered_reached (done ++ line.Fail p store survivor ∷ []) few p (failing store (leaves_of survivor)) (failing_spares store (leaves_of survivor)) may w (begun done (line.Fail p store survivor) few w a (λ n. refl))

  -- one line more
  pub applied_agrees : (done : List ScheduleEvent) (event : ScheduleEvent) (few : length (done ++ event ∷ []) < 2 ^ 32) (w : Run) → IsAfter peers P done w → IsOfLines lines event → MayStand peers event → IsFresh done event → IsFurther (applied event w) whole → IsAfter peers P (done ++ event ∷ []) (applied event w)
  applied_agrees done event few w a says may fresh far = line_over done event few w a (effect_reached done event few w a says may fresh (further_later (effect event w) (applied event w) whole (counted_grows event w) far))

  -- many lines more
  pub lines_agree : (done more : List ScheduleEvent) (w : Run) → length (done ++ more) < 2 ^ 32 → AreOfLines lines more → AllMayStand peers more → AreDistinct (call_ids (done ++ more)) → IsFurther (run_from more w) whole → IsAfter peers P done w → IsAfter peers P (done ++ more) (run_from more w)
  lines_agree done [] w few say may distinct far a = subst (λ (events : List ScheduleEvent). IsAfter peers P events w) (sym (append-nil done)) a
  lines_agree done (event ∷ more) w few say may distinct far a =
      let v = applied event w in
      subst (λ (events : List ScheduleEvent). IsAfter peers P events (run_from more v)) moved
      (lines_agree (done ++ event ∷ []) more v (subst (λ (events : List ScheduleEvent). length events < 2 ^ 32) (sym moved) few) say.1 may.1 (subst (λ (events : List ScheduleEvent). AreDistinct (call_ids events)) (sym moved) distinct) far
      (applied_agrees done event few_here w a say.0 may.0 (fresh_line done more event distinct) (further_later v (run_from more v) whole (run_grows more v) far)))
    where
      moved : (done ++ event ∷ []) ++ more ≡ done ++ event ∷ more
      moved = append_assoc done (event ∷ []) more

      shorter : length (done ++ event ∷ more) ≡ length done + suc (length more) → length (done ++ event ∷ []) ≡ length done + 1 → length (done ++ event ∷ []) < 2 ^ 32
      shorter e f = omega arith

      few_here : length (done ++ event ∷ []) < 2 ^ 32
      few_here = shorter (length-append done (event ∷ more)) (length-append done (event ∷ []))

-- ## A whole schedule

module _ (form : Form) (peers : ℕ) (view : List ℕ) (events : List ScheduleEvent) (P : Run → State → Type 0) (carried : IsCarried peers (lines_of form view events) (run_of_schedule form peers view events) P) (opens : P (opening_run form peers view) (opening view))
    (small : peers ≤ 31) (few : length events < 2 ^ 32) (may : AllMayStand peers events) (distinct : AreDistinct (call_ids events)) where
  -- the world after the schedule, and the run that went along
  pub schedule_agrees : IsAfter peers P events (run_of_schedule form peers view events)
  schedule_agrees = lines_agree peers (lines_of form view events) (run_of_schedule form peers view events) P carried small [] events (opening_run form peers view) few (are_of_lines form view events) may distinct (further_same (run_of_schedule form peers view events))
      (record { state = opening view; holds = opens; agrees = opening_agrees form peers view; size = length-replicate peers (opening_node (opening_mode form) view); intact = opening_intact form peers view })

  -- its histories are legal
  pub schedule_legal : (histories : List History) → AreHistories (run_of_schedule form peers view events).notes (run_of_schedule form peers view events).called histories → AreLegal events (run_of_schedule form peers view events).printed histories
  schedule_legal histories are = by_after schedule_agrees
    where
      by_run : (a : IsAfter peers P events (run_of_schedule form peers view events)) → IsInRun a.state → AreLegal events (run_of_schedule form peers view events).printed histories
      by_run a r = histories_are_legal_of r.view r.steps events (run_of_schedule form peers view events) histories r.run (subst (λ (s : State). BookAgrees events (run_of_schedule form peers view events) s.book) (sym r.is) a.agrees) are

      by_after : IsAfter peers P events (run_of_schedule form peers view events) → AreLegal events (run_of_schedule form peers view events).printed histories
      by_after a = by_run a (carried.run (run_of_schedule form peers view events) a.state a.holds)
