-- What a call did to a machine, the hasher and the outbox.
use Rattle.std.specs.Prelude.{Result}
use Rattle.step_plans.specs.Calls.{Call, AnswerOf}
use Rattle.step_plans.specs.Outboxes.{out_of}
use Rattle.step_plans.specs.Plans.{Part, Spot, Did}
use Rattle.step_plans.specs.declared.error.PeerError.{PeerError}
use Rattle.step_plans.specs.declared.outbox.Outbox.{Outbox}
use Rattle.peer_machine.specs.declared.machine.Machine.{Machine}
use Rattle.peer_state.specs.declared.state.State.{State}

-- the point that a step has reached
abbrev pub spot : {S H : Type 0} → Machine S → H → Outbox → Spot State (S × H)
spot m h o = record { state = m.state; out = out_of o; stores = (m.stores, h); notes = o.notes.items }

-- the call did this part of a step
abbrev pub Acts : {A S H : Type 0} → (S × H → (call : Call) → AnswerOf call → S × H → Type 0) → (S × H → Call → PeerError → S × H → Type 0)
    → Part State A → Machine S → H → Outbox → Result A PeerError → Machine S → H → Outbox → Type 0
Acts does refuses part m h o result n k p = Did does refuses part (spot m h o) result (spot n k p)
