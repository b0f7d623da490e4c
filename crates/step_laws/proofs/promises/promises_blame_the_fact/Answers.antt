use Rattle.step_laws.proofs.Promising.{reached_blames}
use Rattle.step_laws.proofs.promises.promises_blame_the_fact.Goals as goal

pub returns : goal.returns
returns g c = reached_blames g.F.FactKeeper.fault_count _ _ (λ s fact a t d. (d.2, d.1)) (λ s fact e t r. (r.0, r.2, r.3))
