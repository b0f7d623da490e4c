-- A whole step of a peer ends well: the event, the tasks that follow from it, and rule 26 at the end.
use Rattle.std.proofs.Common.{◌≡◌, ◌<◌, ◌^◌, inl, ℕ, false, suc, List, [], ◌∷◌, None, length, refl, ap, sym, subst}
use Rattle.phase_rows.specs.declared.rules.PhaseRule.TheVariants as phase_rules
use Rattle.ens_base.specs.Lists.{◌∈◌}
use Rattle.protocol_laws.specs.Book.{MayCall}
use Rattle.protocol_laws.specs.Protocol.{Step, Ask, IsRun, state_after}
use Rattle.call_table.specs.declared.waiting.Waiting.{Waiting}
use Rattle.peer_refinement.specs.WorldSpec.{Held, run}
use Rattle.leader_refinement.proofs.Leaving.{run_leaves}
use Rattle.leader_refinement.specs.Follows.{IsAtWork, Leaves}
use Rattle.leader_refinement.specs.Seen.{ids_of, owed_after}
use Rattle.peer_spec.proofs.Fuel.{responded_left, concluded_left}
use Rattle.peer_spec.specs.Drives.{first, driven, most_turns, concluded, delivered, ticked, step_of}
use Rattle.peer_state.specs.Moves.{leading}
use Rattle.peer_state.specs.Rows.{leads}
use Rattle.peer_spec.specs.Turns.{HasFewCalls}
use Rattle.peer_state.specs.declared.event.CallIn.{CallIn}
use Rattle.peer_state.specs.declared.event.Event.{Event}
use Rattle.peer_state.specs.declared.event.Event.TheVariants as events
use Rattle.peer_state.specs.declared.state.Leadership.{Leadership}
use Rattle.peer_state.specs.declared.state.Phase.{Phase}
use Rattle.peer_state.specs.declared.state.Phase.TheVariants as phases
use Rattle.peer_state.specs.declared.state.State.{State as PeerState}
use Rattle.register_model.specs.declared.note.Note.{Note}
use Rattle.step_plans.specs.Calls.{OpenTree}
use Rattle.step_plans.specs.Plans.{Plan, Done, Ask as Asks, Out, nothing, Rest}
use Rattle.step_plans.specs.declared.tasks.Task.{Task}
use Rattle.step_plans.specs.declared.tasks.Task.TheVariants as tasks
use Rattle.peer_refinement.specs.Trees.{AreAmong}
use Rattle.wire_frames.specs.declared.message.Message.{Message}
use Rattle.wire_frames.specs.declared.message.Message.TheVariants as messages
use Rattle.step_refinement.proofs.LeaderCalls.{put_heard, check_heard, got_heard, called_good}
use Rattle.step_refinement.proofs.TaskLoop.{PhasesGood, Limit, drive_good}
use Rattle.step_refinement.proofs.CallByCall.{Ends, Onward}
use Rattle.tree_node.specs.declared.version.TreeVersion.TheVariants.{One}
use Rattle.step_refinement.specs.Scenes.{Scene, state_before, now, Here, AtRest, MessageComes, EventComes, EndsBy}
use Rattle.step_refinement.specs.Steps.{asked_in, with_call}
use Rattle.step_refinement.proofs.LeadersAtWork.{at_work, rekeyed}
use Rattle.step_refinement.proofs.KeyTasks.{Grounds}
use Rattle.step_refinement.proofs.LeaderTasks.{phases_wait, TasksFit}
use Rattle.step_refinement.proofs.LeaderTicks.{led_tick}
use Rattle.step_refinement.specs.Keys.{AreFew, KeysAreBelow, IdsAreBelow}
use Rattle.step_refinement.specs.Peers.{AsksFit, EpochsFit}

-- a message that no leader counts for its calls
abbrev pub IsElse : Message → Type 0
IsElse (messages.GetReply ballot round key entry object) = ⊥
IsElse (messages.PutReply ballot key version) = ⊥
IsElse (messages.CheckReply ballot round) = ⊥
IsElse message = Unit {0}

-- at the limit on tasks none is left
abbrev pub stop : Rest PeerState (List Task)
stop [] y o = Done y o
stop (t ∷ ts) y o = Asks (OpenTree None One) (λ u. Done y o)

-- the plan ends in agreement, if all that its run hashes is among the strings
abbrev pub Well : Scene → Plan PeerState → Held → List Note → Type 0
Well c plan h notes = AreAmong (run plan h notes).held.hashed c.strings → EndsBy c (run plan h notes).ending (run plan h notes).held (run plan h notes).notes

-- the other events of a peer: messages that are not to a leader about its calls, the tick of a peer that does
-- not lead, and requests for a view
pub record OthersGood (c : Scene) : Type 0 where
  pub messages_good : (from : ℕ) (message : Message) → IsElse message → (x : PeerState) (h : Held) → (rest : AtRest c [] x h nothing []) → MessageComes c from message (now c rest.0.reached) → (next mark : Rest PeerState (List Task)) → Onward c (TasksFit c) next mark
      → Ends c (delivered c.peer from message x nothing next) (delivered c.peer from message x nothing mark) h []
  pub ticks_good : (x : PeerState) (h : Held) → AtRest c [] x h nothing [] → leads x.phase ≡ false → (next mark : Rest PeerState (List Task)) → Onward c (TasksFit c) next mark
      → Ends c (ticked c.peer x.phase x nothing next) (ticked c.peer x.phase x nothing mark) h []
  pub changes_good : (asked : List ℕ) → asked ∈ c.lines.voting → (x : PeerState) (h : Held) → AtRest c [] x h nothing [] → (next mark : Rest PeerState (List Task)) → Onward c (TasksFit c) next mark
      → Ends c (first c.peer (events.Change asked) x nothing next) (first c.peer (events.Change asked) x nothing mark) h []

ids_length : (calls : List Waiting) → length (ids_of calls) ≡ length calls
ids_length [] = refl
ids_length (w ∷ ws) = ap suc (ids_length ws)

module _ (c : Scene) (ids : (view : List ℕ) (steps : List Step) → IsRun view steps → IdsAreBelow (state_after view steps)) where
  open c use {view, peer as p}

  -- fewer calls are unanswered than came
  few_here : {key : List ℕ} {h : Held} {out : Out} {notes : List Note} (l : Leadership) (x : PeerState) → Here c key (leading l x) h out notes → length l.leader.table.calls < 2 ^ 60
  few_here {key} {out = out} l x here = subst (λ (n : ℕ). n < 2 ^ 60) (ids_length l.leader.table.calls)
      (ids view here.reached.steps here.reached.run (subst AreFew (sym here.reached.elsewhere.calls) c.few) (ids_of l.leader.table.calls) leaves.distinct (λ id at. let on = leaves.among id at in ((work.holds.rows on.0).calls id on.1).called))
    where
      work : IsAtWork here.reached.ghosts (now c here.reached) key (owed_after [] out.answers) l.leader
      work = at_work c l x here

      leaves : Leaves here.reached.ghosts (now c here.reached) key (owed_after [] out.answers) l.leader
      leaves = run_leaves view here.reached.steps here.reached.run here.reached.ghosts key (owed_after [] out.answers) l.leader work

  few_calls : (phase : Phase) (key : List ℕ) (x : PeerState) (h : Held) (out : Out) (notes : List Note) → Here c key (record x { phase = phase }) h out notes → HasFewCalls phase
  few_calls (phases.Leading l) key x h out notes here = few_here l x here
  few_calls (phases.Following f) key x h out notes here = tt
  few_calls (phases.Probing b) key x h out notes here = tt
  few_calls (phases.Electing e) key x h out notes here = tt

module _ (c : Scene) (grounds : Grounds c) (phases_good : PhasesGood c) (ids : (view : List ℕ) (steps : List Step) → IsRun view steps → IdsAreBelow (state_after view steps)) where
  open c use {peer as p}

  -- the step is over
  over : Limit c (λ rest z q. Done z q) stop
  over = record {
    goes = λ key x h out notes rest alone among. rekeyed c key [] x h out notes rest;
    none = λ t ts x out alone. alone.0;
  }

  -- rule 26, and what follows
  conclude : (key : List ℕ) (x : PeerState) (h : Held) (out : Out) (notes : List Note) → AtRest c key x h out notes → Well c (concluded p x out (λ u y o. Done y o)) h notes
  conclude key x h out notes rest = phases_good (tasks.Phase phase_rules.EndEpoch) tt key x h out notes rest (λ ts y o. driven p most_turns ts y o (λ left z q. Done z q)) (λ ts y o. driven p most_turns ts y o stop)
      (λ ts k y g o ns there. drive_good c grounds phases_good most_turns ts k y g o ns (inl ((there.1, phases_wait y.phase ts there.0))) (λ left z q. Done z q) stop over)
      (concluded_left p x out stop (few_calls c ids x.phase key x h out notes rest.0) (λ y o. tt))

  concludes : Limit c (λ left z q. concluded p z q (λ u y o. Done y o)) stop
  concludes = record {
    goes = λ key x h out notes rest alone. conclude key x h out notes rest;
    none = λ t ts x out alone. alone.0;
  }

  -- what follows the row for the event
  abbrev after_event : Rest PeerState (List Task)
  after_event ts y o = driven p most_turns ts y o (λ left z q. concluded p z q (λ u v w. Done v w))

  abbrev after_mark : Rest PeerState (List Task)
  after_mark ts y o = driven p most_turns ts y o stop

  onward : Onward c (TasksFit c) after_event after_mark
  onward ts k y g o ns there = drive_good c grounds phases_good most_turns ts k y g o ns there (λ left z q. concluded p z q (λ u v w. Done v w)) stop concludes

  -- a step whose event ends well
  pub whole_step : (event : Event) (x : PeerState) (h : Held) → HasFewCalls x.phase → ((next mark : Rest PeerState (List Task)) → Onward c (TasksFit c) next mark → Ends c (first p event x nothing next) (first p event x nothing mark) h []) → Well c (step_of p event x) h []
  whole_step event x h few_left good = good after_event after_mark onward (responded_left p event x nothing stop few_left (λ y o. tt))

-- ## Events

module _ (c : Scene) (others : OthersGood c) where
  open c use {peer as p}

  event_tick : (phase : Phase) (x : PeerState) (h : Held) → AtRest c [] (record x { phase = phase }) h nothing [] → (next mark : Rest PeerState (List Task)) → Onward c (TasksFit c) next mark
      → Ends c (ticked p phase (record x { phase = phase }) nothing next) (ticked p phase (record x { phase = phase }) nothing mark) h []
  event_tick (phases.Leading l) x h rest next mark go = led_tick c [] l x h nothing [] rest next mark go
  event_tick (phases.Following f) x h rest next mark go = others.ticks_good (record x { phase = phases.Following f }) h rest refl next mark go
  event_tick (phases.Probing b) x h rest next mark go = others.ticks_good (record x { phase = phases.Probing b }) h rest refl next mark go
  event_tick (phases.Electing e) x h rest next mark go = others.ticks_good (record x { phase = phases.Electing e }) h rest refl next mark go

  event_delivered : (from : ℕ) (message : Message) (x : PeerState) (h : Held) → (rest : AtRest c [] x h nothing []) → MessageComes c from message (now c rest.0.reached) → (next mark : Rest PeerState (List Task)) → Onward c (TasksFit c) next mark
      → Ends c (delivered p from message x nothing next) (delivered p from message x nothing mark) h []
  event_delivered from (messages.GetReply ballot round key entry object) x h rest comes next mark go = got_heard c from ballot round key entry object x.phase [] x h nothing [] rest (comes.said _ refl) comes.fits.0 comes.fits.1 next mark go
  event_delivered from (messages.PutReply ballot key version) x h rest comes next mark go = put_heard c from ballot key version x.phase [] x h nothing [] rest (comes.said _ refl) next mark go
  event_delivered from (messages.CheckReply ballot round) x h rest comes next mark go = check_heard c from ballot round x.phase [] x h nothing [] rest (comes.said _ refl) next mark go
  event_delivered from message x h rest comes next mark go = others.messages_good from message tt x h rest comes next mark go

  -- an event that is no call ends well
  pub event_good : (event : Event) (x : PeerState) (h : Held) → (rest : AtRest c [] x h nothing []) → EventComes c event (now c rest.0.reached) → (next mark : Rest PeerState (List Task)) → Onward c (TasksFit c) next mark → Ends c (first p event x nothing next) (first p event x nothing mark) h []
  event_good (events.Deliver from message) x h rest comes next mark go = event_delivered from message x h rest comes next mark go
  event_good events.Tick x h rest comes next mark go = event_tick x.phase x h rest next mark go
  event_good (events.Call call) x h rest comes next mark go = absurd comes
  event_good (events.Change asked) x h rest comes next mark go = others.changes_good asked comes x h rest next mark go

-- what all steps stand on
pub record StepGrounds : Type 0 where
  pub keys : (view : List ℕ) (steps : List Step) → IsRun view steps → KeysAreBelow (state_after view steps)
  pub ids : (view : List ℕ) (steps : List Step) → IsRun view steps → IdsAreBelow (state_after view steps)
  pub phases_good : (c : Scene) → PhasesGood c
  pub others : (c : Scene) → OthersGood c

module _ (g : StepGrounds) where
  -- the step of a running peer on an event that is no call ends well
  pub step_good : (c : Scene) → EpochsFit (state_before c) → (event : Event) (x : PeerState) (h : Held) → (rest : AtRest c [] x h nothing []) → EventComes c event (now c rest.0.reached) → Well c (step_of c.peer event x) h []
  step_good c epochs event x h rest comes = whole_step c (record { few = g.keys; epochs = epochs }) (g.phases_good c) g.ids event x h (few_calls c g.ids x.phase [] x h nothing [] rest.0) (λ next mark go. event_good c (g.others c) event x h rest comes next mark go)

  -- so does its step on a call, which has come when the step begins
  pub call_good : (c : Scene) → EpochsFit (state_before c) → (call : CallIn) (few : AreFew (state_after c.view (Ask (asked_in (state_before c) call) ∷ c.begun)).book.calls) (asked : AsksFit (state_after c.view (Ask (asked_in (state_before c) call) ∷ c.begun))) (x : PeerState) (h : Held)
      → (rest : AtRest c [] x h nothing []) → rest.0.reached.steps ≡ c.begun → MayCall (state_before c).book (asked_in (state_before c) call) → Well (with_call c call few asked) (step_of c.peer (events.Call call) x) h []
  call_good c epochs call few asked x h rest same may = whole_step d (record { few = g.keys; epochs = epochs }) (g.phases_good d) g.ids (events.Call call) x h (few_calls c g.ids x.phase [] x h nothing [] rest.0)
      (λ next mark go. called_good c call few asked may x h rest.0 same rest.1 next mark go)
    where
      d : Scene
      d = with_call c call few asked
