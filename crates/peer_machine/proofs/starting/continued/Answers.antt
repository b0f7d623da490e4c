use Rattle.std.proofs.Common.{refl, inr, ap}
use Rattle.step_plans.specs.Plans.{Finished, nothing}
use Rattle.peer_state.specs.declared.state.State.{State}
use Rattle.peer_machine.proofs.starting.continued.Goals as goal

pub returns-in-Ok-clause-starts : goal.returns-in-Ok-clause-starts
returns-in-Ok-clause-starts g c = inr (inr (tt, (c.open_tree.new.self, c.open_tree.new.hasher), c.in-Ok.ensures, inr (ap (λ (x : State). Finished x nothing) c.first_state.ensures, refl, refl)))
