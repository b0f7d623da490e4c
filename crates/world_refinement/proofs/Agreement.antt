-- The agreement of a world with a run is carried through the lines of a schedule.
use Rattle.std.proofs.Common.{◌≡◌, ℕ, suc, ◌≤◌, ◌==◌, if◌then◌else◌, Bool, true, false, not, nat_lt, List, ◌∷◌, ◌++◌, length, Some, slice_get, slice_set, arith, refl, sym, subst, inr}
use Rattle.std.proofs.lemmas.Bool.{and_parts, false≢true}
use Rattle.ens_base.proofs.Lists.{in_left}
use Rattle.std.specs.Prelude.{All}
use Rattle.ens_base.specs.Limits.{IsKey, IsCommand}
use Rattle.ens_base.specs.Lists.{◌∈◌}
use Rattle.ens_base.specs.View.{IsPeer}
use Rattle.ens_base.specs.declared.command.Command.{Command}
use Rattle.protocol_laws.specs.Book.{MayCall}
use Rattle.protocol_laws.specs.Protocol.{State, Step, Begin, Ask, IsRun, happens, MayCome, state_after}
use Rattle.protocol_laws.proofs.Epochs.{run_elections}
use Rattle.protocol_laws.proofs.Replies.{run_entries}
use Rattle.protocol_laws.proofs.Trees.{run_versions}
use Rattle.step_refinement.specs.ElectionRefinement.{IsListedMessage, FrameHolds}
use Rattle.peer_refinement.specs.WorldSpec.{HeldStores}
use Rattle.role_laws.proofs.Roles.{run_roles}
use Rattle.role_laws.specs.Roles.{IsSilent}
use Rattle.network.specs.Mail.{MayBeSent}
use Rattle.peer_state.specs.declared.event.Event.{Event}
use Rattle.peer_state.specs.declared.state.Mode.{Mode}
use Rattle.peer_state.specs.declared.event.Event.TheVariants as events
use Rattle.register_model.specs.declared.note.Note.{Note}
use Rattle.schedule_text.specs.Forms.{is_deep}
use Rattle.schedule_text.specs.Spelling.{MayStand}
use Rattle.schedule_text.specs.declared.event.ScheduleEvent.TheVariants as line
use Rattle.lexemes.specs.Spelling.{IsAmong}
use Rattle.role_laws.specs.Facts.{Lines, AreFirm}
use Rattle.step_refinement.proofs.PeerRefinement.{may_return}
use Rattle.step_refinement.specs.PeerRefinement.{ShownMayReturn}
use Rattle.peer_refinement.specs.Trees.{AreAmong, AreFree}
use Rattle.tree_node.specs.declared.version.TreeVersion.{TreeVersion}
use Rattle.tree_node.specs.declared.version.TreeVersion.TheVariants.{Two}
use Rattle.wire_frames.specs.declared.frame.Frame.{Frame}
use Rattle.world_spec.proofs.Growth.{IsFurther}
use Rattle.world_spec.specs.Lines.{call_of}
use Rattle.world_spec.specs.Nodes.{Node, Up, Down, is_down, all_down, taken, started, hashed_by_start, stopped, over_stores, while_down}
use Rattle.world_spec.specs.Runs.{Run, hashing, may_deepen, deepened, mode_at, place_of, with_taken}
use Rattle.world_spec.specs.Stores.{taken_back}
use Rattle.world_refinement.proofs.ChangedStores.{SparesRecords, altered_fits, altered_role, started_fits, started_role, reverted_fits}
use Rattle.step_refinement.specs.Scenes.{MessageComes}
use Rattle.world_refinement.proofs.GivenAnswers.{parts_same}
use Rattle.world_refinement.proofs.WorldGrammar.{is_peer, taken_intact}
use Rattle.step_refinement.proofs.CalledKeys.{some_few}
use Rattle.world_refinement.proofs.ChangedNodes.{frame_at, said_at, none_from, all_are_down}
use Rattle.world_refinement.proofs.Schedules.{IsInRun, AreAlike, TakesStep, GoesAlong, Changes, Starts, after_start, IsCarried, next_call}
use Rattle.step_refinement.proofs.Stretches.{elsewhere_none}
use Rattle.world_refinement.proofs.LaterWorlds.{elsewhere_stays, node_fits}
use Rattle.world_refinement.proofs.StepsInWorlds.{own_fits, NodesGo, renewed, stops, takes_back, scene, StepGoes, stepped_goes, called_goes}
use Rattle.step_refinement.specs.Peers.{AsksFit, FrameFits}
use Rattle.world_refinement.specs.Lines.{MayBeReverted}
use Rattle.world_refinement.specs.Roles.{role_of, roles_of, said_in}
use Rattle.world_refinement.specs.Worlds.{NodeFits, PartsHold, RolesFit, WorldHolds, IsSafe}

-- the laws of the protocol hold in each state of a run
pub is_safe : (view : List ℕ) (steps : List Step) → IsRun view steps → IsSafe (state_after view steps)
is_safe view steps run = record { elections = run_elections view steps run; versions = run_versions view steps run; entries = run_entries view steps run }

module _ (lines : Lines) (view : List ℕ) (strings : List (List ℕ)) where
  -- the world agrees with a run that has reached the state
  pub record Stands (w : Run) (s : State) : Type 0 where
    pub steps : List Step
    pub is : state_after view steps ≡ s
    pub holds : WorldHolds lines view strings steps w

  -- only nodes, messages, which of them may still come, the version of trees, hashed strings and notes matter
  alike_holds : (steps : List Step) (w v : Run) → AreAlike w v → WorldHolds lines view strings steps w → WorldHolds lines view strings steps v
  alike_holds steps w v alike a = record { parts = parts; roles = roles }
    where
      parts : PartsHold v.tree v.first_alive lines view strings steps v.nodes v.mail.sent v.hashed v.notes
      parts = subst (λ (version : TreeVersion). PartsHold version v.first_alive lines view strings steps v.nodes v.mail.sent v.hashed v.notes) (sym alike.tree)
          (subst (λ (first : ℕ). PartsHold w.tree first lines view strings steps v.nodes v.mail.sent v.hashed v.notes) (sym alike.first_alive)
          (subst (λ (nodes : List Node). PartsHold w.tree w.first_alive lines view strings steps nodes v.mail.sent v.hashed v.notes) (sym alike.nodes)
          (subst (λ (sent : List Frame). PartsHold w.tree w.first_alive lines view strings steps w.nodes sent v.hashed v.notes) (sym alike.sent)
          (subst (λ (hashed : List (List ℕ)). PartsHold w.tree w.first_alive lines view strings steps w.nodes w.mail.sent hashed v.notes) (sym alike.hashed)
          (subst (λ (notes : List Note). PartsHold w.tree w.first_alive lines view strings steps w.nodes w.mail.sent w.hashed notes) (sym alike.notes) a.parts)))))

      roles : RolesFit view steps (roles_of v.nodes) v.mail.sent
      roles = subst (λ (nodes : List Node). RolesFit view steps (roles_of nodes) v.mail.sent) (sym alike.nodes) (subst (λ (sent : List Frame). RolesFit view steps (roles_of w.nodes) sent) (sym alike.sent) a.roles)

  -- a step of the book at which an event begins
  silent_holds : (steps : List Step) (e : Step) (w : Run) → WorldHolds lines view strings steps w → MayCome (state_after view steps) e → IsSilent e → (happens (state_after view steps) e).objects ≡ (state_after view steps).objects
      → AsksFit (happens (state_after view steps) e) → (happens (state_after view steps) e).book.notes ≡ (state_after view steps).book.notes → WorldHolds lines view strings (e ∷ steps) w
  silent_holds steps e w holds may silent same asked noted = record {
    parts = parts_same w.tree w.first_alive lines view strings steps e w.nodes w.mail.sent w.hashed w.notes may same asked noted holds.parts;
    roles = record { ghosts = holds.roles.ghosts; hash = holds.roles.hash; hold = (run_roles view steps holds.parts.run).silent holds.roles.ghosts (roles_of w.nodes) (said_in w.mail.sent) e may silent holds.roles.hold };
  }

  -- each call that has come keeps its limits
  asked_fit : (s : State) (id : ℕ) (key : List ℕ) (command : Command) → IsKey key → IsCommand command → AsksFit s → AsksFit (happens s (Ask (next_call s id key command)))
  asked_fit s id key command is_key is_command asked i = by_id (id == i)
    where
      by_id : (b : Bool) → (if b then true else s.book.called i) ≡ true → IsKey (if b then next_call s id key command else s.book.asked i).key × IsCommand (if b then next_call s id key command else s.book.asked i).command
      by_id true came = (is_key, is_command)
      by_id false came = asked i came

  module _ (sound : AreFirm lines) (free : AreFree strings) (peers : ℕ) (small : peers ≤ 31) (whole : Run) (all : AreAmong whole.hashed strings) where
    -- what was hashed so far is among the strings
    among_all : (v : Run) → IsFurther v whole → AreAmong v.hashed strings
    among_all v further x at = all x (subst (λ (xs : List (List ℕ)). x ∈ xs) (sym further.hashed.1) (in_left v.hashed further.hashed.0 x at))

    -- the messages after a step obey the grammar
    messages_may : (p : ℕ) (event : Event) (node : Node) (w : Run) (s : State) → TakesStep whole p event node w s → All MayBeSent (with_taken p (taken p event node) w).mail.sent
    messages_may p event node w s takes = (taken_intact p event node w takes.peer takes.comes takes.at takes.intact).fine.mail

    goes_along : (p : ℕ) (peer : IsPeer p) (event : Event) (node : Node) (w : Run) (steps : List Step) → StepGoes lines sound view strings free p peer w steps (taken p event node) → GoesAlong Stands p (taken p event node) w (state_after view steps)
    goes_along p peer event node w steps g = record { next = state_after view g.steps; holds = record { steps = g.steps; is = refl; holds = g.holds }; agrees = g.agrees }

    -- what is asked of a step, at the state of a run
    abbrev OfRun : (Run → State → Type 0) → Type 0
    OfRun Q = (w : Run) (steps : List Step) → WorldHolds lines view strings steps w → Q w (state_after view steps)

    -- it holds at each state that a run has reached
    in_run : (Q : Run → State → Type 0) → OfRun Q → (w : Run) (s : State) → Stands w s → Q w s
    in_run Q q w s a = subst (Q w) a.is (q w a.steps a.holds)

    ticks_along : (p : ℕ) (node : Node) → OfRun (λ w s. TakesStep whole p events.Tick node w s → GoesAlong Stands p (taken p events.Tick node) w s)
    ticks_along p node w steps holds takes = goes_along p takes.peer events.Tick node w steps
        (stepped_goes lines sound view strings free p takes.peer w events.Tick node steps holds takes.few takes.at tt (messages_may p events.Tick node w (state_after view steps) takes) (among_all (with_taken p (taken p events.Tick node) w) takes.further))

    -- a message that was sent comes
    receives_along : (n : ℕ) (f : Frame) (node : Node) → OfRun (λ w s. slice_get w.mail.sent n ≡ Some f → nat_lt n w.first_alive ≡ false → TakesStep whole f.to (events.Deliver f.from f.message) node w s → GoesAlong Stands f.to (taken f.to (events.Deliver f.from f.message) node) w s)
    receives_along n f node w steps holds is later takes = goes_along f.to takes.peer event node w steps
        (stepped_goes lines sound view strings free f.to takes.peer w event node steps holds takes.few takes.at comes (messages_may f.to event node w (state_after view steps) takes) (among_all (with_taken f.to (taken f.to event node) w) takes.further))
      where
        event : Event
        event = events.Deliver f.from f.message

        comes : MessageComes (scene lines sound view strings free f.to takes.peer w steps takes.few holds.parts.asked holds.parts.firm) f.from f.message (state_after view steps)
        comes = record {
          is_peer = takes.comes.0;
          other = takes.comes.1;
          obeys = takes.comes.2;
          holds = (frame_at (FrameHolds (state_after view steps).objects.ledger) w.mail.sent n f is holds.parts.messages.hold).1.1;
          listed = frame_at (λ (g : Frame). IsListedMessage lines.voting g.message) w.mail.sent n f is holds.parts.messages.listed;
          fits = holds.parts.messages.fit n f later is;
          said = λ m says. said_at w.mail.sent n f m is says;
        }

    takes_call_along : (p id : ℕ) (key : List ℕ) (command : Command) (node : Node) → MayStand peers (line.Call p id key command)
        → OfRun (λ w s. MayCall s.book (next_call s id key command) → TakesStep whole p (events.Call (call_of id key command)) node w (happens s (Ask (next_call s id key command))) → GoesAlong Stands p (taken p (events.Call (call_of id key command)) node) w (happens s (Ask (next_call s id key command))))
    takes_call_along p id key command node may w steps holds may_call takes = goes_along p takes.peer event node w (ask ∷ steps)
        (called_goes lines sound view strings free p takes.peer w (call_of id key command) node steps holds (some_few s.book.calls (happens s ask).book.calls (λ c at. inr at) takes.few) takes.at may_call come takes.few (messages_may p event node w (happens s ask) takes) (among_all (with_taken p (taken p event node) w) takes.further))
      where
        s : State
        s = state_after view steps

        event : Event
        event = events.Call (call_of id key command)

        ask : Step
        ask = Ask (next_call s id key command)

        come : WorldHolds lines view strings (ask ∷ steps) w
        come = silent_holds steps ask w holds (tt, may_call) tt refl (asked_fit s id key command may.2 may.3 holds.parts.asked) refl

    -- a peer is asked for a view that may vote
    takes_change_along : (p : ℕ) (asked : List ℕ) (node : Node) → asked ∈ lines.voting → OfRun (λ w s. TakesStep whole p (events.Change asked) node w s → GoesAlong Stands p (taken p (events.Change asked) node) w s)
    takes_change_along p asked node votes w steps holds takes = goes_along p takes.peer (events.Change asked) node w steps
        (stepped_goes lines sound view strings free p takes.peer w (events.Change asked) node steps holds takes.few takes.at votes (messages_may p (events.Change asked) node w (state_after view steps) takes)
        (among_all (with_taken p (taken p (events.Change asked) node) w) takes.further))

    -- ## Lines that change the node of a peer

    -- the run goes on, and the node of the peer is this one
    changes : (p : ℕ) (peer : IsPeer p) (new : Node) (w : Run) (steps : List Step) → NodesGo w.tree w.first_alive lines view strings p peer steps (slice_set w.nodes (place_of p) new) w.mail.sent w.hashed w.notes → Changes Stands p new w (state_after view steps)
    changes p peer new w steps g = record { next = state_after view g.steps; holds = record { steps = g.steps; is = refl; holds = record { parts = g.parts; roles = g.roles } }; quiet = g.quiet }

    -- what the node of a peer of the world holds
    fits_at : (p : ℕ) (peer : IsPeer p) (node : Node) (w : Run) (steps : List Step) → WorldHolds lines view strings steps w → slice_get w.nodes (place_of p) ≡ Some node → NodeFits w.tree lines strings w.hashed (state_after view steps) p node
    fits_at p peer node w steps holds at = own_fits w.tree w.first_alive lines view strings p peer steps w.nodes w.mail.sent w.hashed w.notes node holds.parts at

    -- another node with the same role
    same_role : (p : ℕ) (peer : IsPeer p) (node new : Node) (w : Run) (steps : List Step) → WorldHolds lines view strings steps w → slice_get w.nodes (place_of p) ≡ Some node → role_of new ≡ role_of node → NodeFits w.tree lines strings w.hashed (state_after view steps) p new → Changes Stands p new w (state_after view steps)
    same_role p peer node new w steps holds at same fits = changes p peer new w steps (renewed w.tree w.first_alive lines view strings p peer steps w.nodes w.mail.sent w.hashed w.notes holds.parts holds.roles w.hashed node new at same (λ x i. i) fits)

    -- a peer stops; one that is down stays so
    stops_along : (p : ℕ) (node : Node) → IsAmong peers p → OfRun (λ w s. slice_get w.nodes (place_of p) ≡ Some node → Changes Stands p (stopped node) w s)
    stops_along p (Up x stores) among w steps holds at = let peer : IsPeer p = is_peer peers p small among in changes p peer (Down stores) w steps (stops w.tree w.first_alive lines view strings p peer steps w.nodes w.mail.sent w.hashed w.notes holds.parts holds.roles x stores at)
    stops_along p (Down stores) among w steps holds at = let peer : IsPeer p = is_peer peers p small among in same_role p peer (Down stores) (Down stores) w steps holds at refl (fits_at p peer (Down stores) w steps holds at)

    -- a peer starts; a running one goes on
    starts_along : (p : ℕ) (node : Node) → IsAmong peers p → OfRun (λ w s. slice_get w.nodes (place_of p) ≡ Some node → IsFurther (after_start p node w) whole → Starts Stands p node w s)
    starts_along p node among w steps holds at far =
        let peer : IsPeer p = is_peer peers p small among in
        let s : State = state_after view steps in
        let mode : Mode = mode_at p w in
        let fits : NodeFits w.tree lines strings w.hashed s p node = fits_at p peer node w steps holds at in
        let hashes : AreAmong (w.hashed ++ hashed_by_start mode w.view node) strings = among_all (after_start p node w) far in
        let may : ShownMayReturn s = may_return view steps holds.parts.run in
        let g = renewed w.tree w.first_alive lines view strings p peer steps w.nodes w.mail.sent w.hashed w.notes holds.parts holds.roles (w.hashed ++ hashed_by_start mode w.view node) node (started mode w.view node) at (started_role lines strings s p free may mode w.view w.hashed node fits hashes)
        (λ x i. in_left w.hashed (hashed_by_start mode w.view node) x i) (started_fits lines strings s p free may mode w.view w.hashed node fits hashes) in
        record { next = state_after view g.steps; holds = record { steps = g.steps; is = refl; holds = record { parts = g.parts; roles = g.roles } }; quiet = g.quiet }

    -- all peers are down, and from now on start with trees of version two; no message that was sent comes
    deepens_along : OfRun (λ w s. may_deepen w ≡ true → Stands (deepened w) s)
    deepens_along w steps holds may = record { steps = steps; is = refl; holds = record { parts = parts; roles = holds.roles } }
      where
        s : State
        s = state_after view steps

        down_fits : (place : ℕ) (node : Node) → is_down node ≡ true → NodeFits w.tree lines strings w.hashed s (suc place) node → NodeFits Two lines strings w.hashed s (suc place) node
        down_fits place (Up x stores) down fits = absurd (false≢true down)
        down_fits place (Down stores) down fits = fits

        parts : PartsHold Two (length w.mail.sent) lines view strings steps w.nodes w.mail.sent w.hashed w.notes
        parts = record {
          run = holds.parts.run;
          orderly = holds.parts.orderly;
          acks = holds.parts.acks;
          asked = holds.parts.asked;
          epochs = holds.parts.epochs;
          firm = holds.parts.firm;
          nodes_fit = λ place node at. down_fits place node (all_are_down w.nodes place node (and_parts (not (is_deep w.form)) (all_down w.nodes) may).1 at) (holds.parts.nodes_fit place node at);
          messages = record { hold = holds.parts.messages.hold; listed = holds.parts.messages.listed; fit = none_from (FrameFits Two lines s strings) w.mail.sent; may = holds.parts.messages.may };
          noted = holds.parts.noted;
        }

    -- stores change, but for the top records
    alters_along : (p : ℕ) (f : HeldStores → HeldStores) (node : Node) → SparesRecords f → IsAmong peers p → OfRun (λ w s. slice_get w.nodes (place_of p) ≡ Some node → Changes Stands p (over_stores f node) w s)
    alters_along p f node spares among w steps holds at = let peer : IsPeer p = is_peer peers p small among in
        same_role p peer node (over_stores f node) w steps holds at (altered_role f node) (altered_fits w.tree lines strings p f spares w.hashed (state_after view steps) node (fits_at p peer node w steps holds at))

    -- a tree is put back, if its peer is down
    reverts_along : (p n : ℕ) (node : Node) → MayBeReverted lines p → IsAmong peers p → OfRun (λ w s. slice_get w.nodes (place_of p) ≡ Some node → Changes Stands p (while_down (taken_back n) node) w s)
    reverts_along p n (Up x stores) may among w steps holds at = let peer : IsPeer p = is_peer peers p small among in same_role p peer (Up x stores) (Up x stores) w steps holds at refl (fits_at p peer (Up x stores) w steps holds at)
    reverts_along p n (Down stores) may among w steps holds at = let peer : IsPeer p = is_peer peers p small among in
        changes p peer (Down (taken_back n stores)) w steps
        (takes_back w.tree w.first_alive lines view strings p peer steps w.nodes w.mail.sent w.hashed w.notes holds.parts holds.roles stores (taken_back n stores) may at (reverted_fits lines strings w.hashed (state_after view steps) p n stores (fits_at p peer (Down stores) w steps holds at)))

    -- strings are hashed
    hashes_along : (xs : List (List ℕ)) → OfRun (λ w s. Stands (hashing xs w) s)
    hashes_along xs w steps holds = record { steps = steps; is = refl; holds = record { parts = parts; roles = holds.roles } }
      where
        s : State
        s = state_after view steps

        apart : (q : ℕ) → suc q ≡ q → ⊥
        apart q e = omega (arith, e)

        parts : PartsHold w.tree w.first_alive lines view strings steps w.nodes w.mail.sent (w.hashed ++ xs) w.notes
        parts = record {
          run = holds.parts.run;
          orderly = holds.parts.orderly;
          acks = holds.parts.acks;
          asked = holds.parts.asked;
          epochs = holds.parts.epochs;
          firm = holds.parts.firm;
          nodes_fit = λ place node at. node_fits w.tree lines strings w.hashed (w.hashed ++ xs) (suc place) s s (elsewhere_stays (suc (suc place)) (suc place) s s (apart (suc place)) (elsewhere_none (suc (suc place)) s))
              (λ x i. in_left w.hashed xs x i) node (holds.parts.nodes_fit place node at);
          messages = holds.parts.messages;
          noted = holds.parts.noted;
        }

    begins_along : OfRun (λ w s. Stands w (happens s Begin))
    begins_along w steps holds = record { steps = Begin ∷ steps; is = refl; holds = silent_holds steps Begin w holds (tt, tt) tt refl holds.parts.asked refl }

    -- the agreement is carried through each line
    pub carried : IsCarried peers lines whole Stands
    carried = record {
      run = in_run (λ w s. IsInRun s) (λ w steps holds. record { view = view; steps = steps; run = holds.parts.run; is = refl });
      alike = λ w v s alike a. record { steps = a.steps; is = a.is; holds = alike_holds a.steps w v alike a.holds };
      begins = in_run (λ w s. Stands w (happens s Begin)) begins_along;
      ticks = λ p node w s among takes a. in_run (λ w s. TakesStep whole p events.Tick node w s → GoesAlong Stands p (taken p events.Tick node) w s) (ticks_along p node) w s a takes;
      receives = λ n f node w s is later takes a. in_run (λ w s. slice_get w.mail.sent n ≡ Some f → nat_lt n w.first_alive ≡ false → TakesStep whole f.to (events.Deliver f.from f.message) node w s → GoesAlong Stands f.to (taken f.to (events.Deliver f.from f.message) node) w s) (receives_along n f node) w s a is later takes;
      takes_call = λ p id key command node w s may may_call takes a. in_run
          (λ w s. MayCall s.book (next_call s id key command) → TakesStep whole p (events.Call (call_of id key command)) node w (happens s (Ask (next_call s id key command))) → GoesAlong Stands p (taken p (events.Call (call_of id key command)) node) w (happens s (Ask (next_call s id key command))))
          (takes_call_along p id key command node may) w s a may_call takes;
      takes_change = λ p asked node w s votes takes a. in_run (λ w s. TakesStep whole p (events.Change asked) node w s → GoesAlong Stands p (taken p (events.Change asked) node) w s) (takes_change_along p asked node votes) w s a takes;
      stops = λ p node w s among at a. in_run (λ w s. slice_get w.nodes (place_of p) ≡ Some node → Changes Stands p (stopped node) w s) (stops_along p node among) w s a at;
      starts = λ p node w s among at far a. in_run (λ w s. slice_get w.nodes (place_of p) ≡ Some node → IsFurther (after_start p node w) whole → Starts Stands p node w s) (starts_along p node among) w s a at far;
      deepens = λ w s may a. in_run (λ w s. may_deepen w ≡ true → Stands (deepened w) s) deepens_along w s a may;
      hashes = λ xs w s a. in_run (λ w s. Stands (hashing xs w) s) (hashes_along xs) w s a;
      alters = λ p f node w s spares among at a. in_run (λ w s. slice_get w.nodes (place_of p) ≡ Some node → Changes Stands p (over_stores f node) w s) (alters_along p f node spares among) w s a at;
      reverts = λ p n node w s soft among at a. in_run (λ w s. slice_get w.nodes (place_of p) ≡ Some node → Changes Stands p (while_down (taken_back n) node) w s) (reverts_along p n node soft among) w s a at;
    }
