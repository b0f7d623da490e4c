use Rattle.tree_repair.specs.Builds.{somes}
use Rattle.tree_repair.proofs.Admissions.{memory_at_once}
use Rattle.tree_repair.proofs.building.keep_level.Goals as goal

pub returns-in_err-names-clause-admits : goal.returns-in_err-names-clause-admits
returns-in_err-names-clause-admits g c = memory_at_once g.H.Hasher16.kept g.H.Hasher16.clashes g.H.Hasher16.fulls (somes c.args.level.texts.items) c.args.hasher.now c.from_residual.result _ c.from_residual.ensures.0 c.from_residual.ensures.1 (λ d h. h)
