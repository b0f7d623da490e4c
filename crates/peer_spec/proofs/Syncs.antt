-- A sync that goes on does not ask which sync ran before.
use Rattle.std.proofs.Common.{◌≡◌, ℕ, List, refl}
use Rattle.leader_output.specs.declared.out.Outgoing.{Outgoing}
use Rattle.peer_state.specs.TreeSync.{Running, Outcome, Pending, Trusted, outcome_of}
use Rattle.step_plans.specs.Plans.{Out, Rest}
use Rattle.step_plans.specs.declared.tasks.Task.{Task}
use Rattle.peer_state.specs.Moves.{without_sync}
use Rattle.peer_spec.specs.Syncs.{and_sends, by_outcome, go_on}
use Rattle.peer_state.specs.declared.state.State.{State}

pub by_outcomeout : (me : ℕ) (r : Running) (outcome : Outcome) (x : State) (out : Out) (next : Rest State (List Task)) → by_outcome me r outcome (without_sync x) out next ≡ by_outcome me r outcome x out next
by_outcomeout me r Pending x out next = refl
by_outcomeout me r (Trusted entries) x out next = refl

pub go_on_without : (me : ℕ) (r : Running × List Outgoing) (x : State) (out : Out) (next : Rest State (List Task)) → go_on me r (without_sync x) out next ≡ go_on me r x out next
go_on_without me r x out next = by_outcomeout me r.0 (outcome_of r.0.sync) x (and_sends out r.1) next
