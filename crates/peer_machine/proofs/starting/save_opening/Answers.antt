use Rattle.std.proofs.Common.{refl, inr, ap}
use Rattle.step_plans.specs.Plans.{Finished, nothing}
use Rattle.peer_state.specs.declared.state.State.{State}
use Rattle.peer_machine.proofs.starting.save_opening.Goals as goal

pub returns-in-Ok-clause-starts : goal.returns-in-Ok-clause-starts
returns-in-Ok-clause-starts g c = rw (← c.opening-fact.ensures) (
    inr (inr (tt, (c.save.new.self, c.save.new.hasher), c.in-Ok.ensures.answers, inr (ap (λ (x : State). Finished x nothing) c.first_state.ensures, refl, refl))))
