-- The messages that a peer answers without allocating, with at most one message, to the sender, if no
-- call is unanswered.
use Rattle.std.specs.Prelude.{◌≡◌, ℕ, Bool, true, false}
use Rattle.leader.specs.CallTable.{has_calls}
use Rattle.stored_formats.specs.declared.fact.Fact.{Fact}
use Rattle.step_plans.specs.Outboxes.{FitsIn}
use Rattle.phase_rows.specs.declared.phase.Then.{Then}
use Rattle.phase_rows.specs.declared.phase.Then.TheVariants as thens
use Rattle.step_plans.specs.declared.outbox.Outbox.{Outbox}
use Rattle.step_plans.specs.declared.tasks.Task.{Task}
use Rattle.step_plans.specs.declared.tasks.Task.TheVariants as tasks
use Rattle.phase_rules.specs.Finishing.{may_end}
use Rattle.wire_frames.specs.declared.message.Message.{Message}
use Rattle.wire_frames.specs.declared.message.Message.TheVariants as messages
use Rattle.phase_rows.specs.declared.phase.PhaseOut.{PhaseOut}
use Rattle.peer_state.specs.Moves.{waits, ends_leading}
use Rattle.peer_state.specs.Rows.{phase_row}
use Rattle.peer_state.specs.declared.event.Event.{Event}
use Rattle.peer_state.specs.declared.event.Event.TheVariants as events
use Rattle.peer_state.specs.declared.state.ChangeState.{ChangeState}
use Rattle.peer_state.specs.declared.state.ChangeState.TheVariants.{Settled, Wanted, Finishing}
use Rattle.peer_state.specs.declared.state.Phase.{Phase}
use Rattle.peer_state.specs.declared.state.Phase.TheVariants as phases
use Rattle.peer_state.specs.declared.state.State.{State}

-- a message that is answered without allocating: Prepare, Check or Beat
abbrev pub IsAllocationFreeMessage : Message → Type 0
IsAllocationFreeMessage (messages.Prepare ballot) = Unit {0}
IsAllocationFreeMessage (messages.Check epoch round) = Unit {0}
IsAllocationFreeMessage (messages.Beat epoch) = Unit {0}
IsAllocationFreeMessage other = ⊥

-- the event delivers a message that is answered without allocating
abbrev pub IsAllocationFree : Event → Type 0
IsAllocationFree (events.Deliver from message) = IsAllocationFreeMessage message
IsAllocationFree events.Tick = ⊥
IsAllocationFree (events.Call call) = ⊥
IsAllocationFree (events.Change view) = ⊥

-- whether an epoch that is ending may end: a quorum of its views accepted its second fact, and no
-- call is unanswered
abbrev pub is_over : ChangeState → Fact → Bool → Bool
is_over (Finishing f) fact unanswered = may_end f fact unanswered
is_over Settled fact unanswered = false
is_over (Wanted change) fact unanswered = false

-- whether the epoch that a peer leads may end
abbrev pub is_over_in : Phase → Fact → Bool
is_over_in (phases.Leading l) fact = is_over l.change fact (has_calls l.leader.table.calls)
is_over_in (phases.Following f) fact = false
is_over_in (phases.Probing p) fact = false
is_over_in (phases.Electing e) fact = false

-- no leader is still to end its epoch, since rule 6 has run; it would do nothing more
abbrev pub IsSteady : State → Type 0
IsSteady x = is_over_in x.phase x.fact ≡ false

-- no call is unanswered if the row ends leading
abbrev pub EndsQuietly : Bool → Phase → Type 0
EndsQuietly true phase = waits phase ≡ false
EndsQuietly false phase = Unit {0}

-- whether nothing runs after a row: no rule is named, and no sync begins or resumes
abbrev pub ends_step : Then → Bool
ends_step thens.Stay = true
ends_step thens.Follow = true
ends_step (thens.Lead fact) = true
ends_step thens.Untrust = true
ends_step thens.Put = true
ends_step thens.Resume = false
ends_step (thens.SyncOn fact) = false
ends_step (thens.Rule n) = false
ends_step (thens.OnKeys n) = true

-- nothing runs after the row, the outbox has room for its message, if there is one, which has one
-- receiver, and no call is unanswered if it ends leading
pub record IsFreeRow (o : Outbox) (phase : Phase) (row : PhaseOut) : Type 0 where
  pub fits : FitsIn o row.to row.message
  pub ends : ends_step row.then ≡ true
  pub leaves : EndsQuietly row.leave phase
  pub turns : EndsQuietly (ends_leading row.then) phase

-- the row of the task is such a row
abbrev pub IsFreeTask : Outbox → ℕ → Task → State → Type 0
IsFreeTask o me (tasks.Phase rule) x = IsFreeRow o (phase_row rule me x).0.phase (phase_row rule me x).1
IsFreeTask o me tasks.Remind x = ⊥
IsFreeTask o me (tasks.Key n key) x = ⊥
IsFreeTask o me (tasks.Again n key seen) x = ⊥
