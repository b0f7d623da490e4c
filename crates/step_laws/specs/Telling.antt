-- What a tick of a leader sends.
use Rattle.std.specs.Prelude.{◌≡◌, ℕ, map, filter, Some, List, [], ◌++◌}
use Rattle.call_table.specs.Calls.{is_due, older as older_call}
use Rattle.leader_output.specs.declared.out.Outgoing.{Outgoing}
use Rattle.leader.specs.Ticks.{row_5_rest}
use Rattle.stored_formats.specs.declared.fact.Change.{Change}
use Rattle.stored_formats.specs.declared.fact.Fact.{Fact}
use Rattle.peer_spec.specs.Kept.{IsStepCall}
use Rattle.peer_state.specs.Leading.{older, end_of}
use Rattle.peer_state.specs.declared.state.Leadership.{Leadership}
use Rattle.peer_state.specs.declared.state.State.{State}
use Rattle.phase_rows.specs.Peers.{others_of}
use Rattle.step_plans.specs.Calls.{Save}
use Rattle.step_plans.specs.Plans.{Plan, Ask, Out, Follows}
use Rattle.step_plans.specs.Saved.{with_seal}
use Rattle.step_plans.specs.Sends.{posted_to}
use Rattle.phase_rules.specs.Changes.{second_fact}
use Rattle.wire_frames.specs.declared.message.Message.TheVariants.{Commit}

-- these messages are sent first
abbrev pub SendsFirst : List Outgoing → Out → Type 0
SendsFirst first out = (more : List Outgoing) × (out.sends ≡ first ++ more)

-- no call of a leader is due after one more tick
abbrev pub HasNoneDue : Leadership → Type 0
HasNoneDue l = filter is_due (map older_call l.leader.table.calls) ≡ []

-- the messages of a tick of a leader with this saved fact
abbrev pub tick_messages : Fact → Leadership → List Outgoing
tick_messages saved l = (row_5_rest (end_of (older l.change)) saved l.leader).sends

-- the second fact of the epoch, to each other peer that accepted the first one
abbrev pub commit_messages : ℕ → Leadership → Fact → List Outgoing
commit_messages me l second = posted_to (others_of me l.leader.accepts) (Some (Commit second))

-- In a tick this change begins: the second fact of the epoch is saved before anything else is asked of the
-- stores. The messages of the tick are sent first, and then those that ask to accept this fact.
pub record BeginsChange (me : ℕ) (l : Leadership) (change : Change) (x : State) (step : Plan State) : Type 0 where
  pub rest : Unit {0} → Plan State
  pub saves : step ≡ Ask (Save (with_seal x.seal (second_fact x.fact change))) rest
  pub tells : Follows IsStepCall (λ y out. SendsFirst (tick_messages x.fact l ++ commit_messages me l (second_fact x.fact change)) out) (rest tt)
