use Rattle.std.proofs.Common.{ℕ, List, Option, Ok, refl, sym, subst, inr, ap}
use Rattle.peer_spec.specs.Starts.{Starts, reseals_if}
use Rattle.step_plans.specs.Plans.{Finished, nothing}
use Rattle.peer_state.specs.declared.state.State.{State}
use Rattle.peer_machine.proofs.starting.reseal_if.Goals as goal

pub returns-in-None-clause-starts : goal.returns-in-None-clause-starts
returns-in-None-clause-starts g c =
    subst (λ (seal : Option (List ℕ)). Starts g.S.Store.does g.S.Store.refuses (reseals_if seal c.args.mode c.args.saved) (c.args.stores.now, c.args.hasher.now) (Ok c.first_state.result) (c.args.stores.now, c.args.hasher.now)) (sym c.in-None.is)
    (inr (ap (λ (x : State). Finished x nothing) c.first_state.ensures, refl, refl))

pub returns-in-Some-clause-starts : goal.returns-in-Some-clause-starts
returns-in-Some-clause-starts g c = rw c.in-Some.is c.reseal.ensures.starts
