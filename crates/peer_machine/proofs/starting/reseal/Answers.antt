use Rattle.std.proofs.Common.{refl, inl, inr, ap}
use Rattle.step_plans.specs.Plans.{Finished, nothing}
use Rattle.peer_state.specs.declared.state.State.{State}
use Rattle.peer_machine.proofs.starting.reseal.Goals as goal

pub returns-in-Ok-clause-starts : goal.returns-in-Ok-clause-starts
returns-in-Ok-clause-starts g c =
    inr (inr (
      c.in_ok-root.root,
      (c.root.new.self, c.root.new.hasher),
      c.in_ok-root.ensures,
      inr (inr (tt, (c.save.new.self, c.save.new.hasher), c.in-Ok.ensures.answers, inr (ap (λ (x : State). Finished x nothing) c.first_state.ensures, refl, refl))),
    ))

pub returns-in-Err-clause-starts : goal.returns-in-Err-clause-starts
returns-in-Err-clause-starts g c = inr (inr (c.in_ok-root.root, (c.root.new.self, c.root.new.hasher), c.in_ok-root.ensures, inr (inl (c.in-Err.error, c.in-Err.ensures.answers, refl, refl))))
