use Rattle.tree_repair.specs.Admitting.{AdmitsAll}
use Rattle.tree_backup.specs.Checks.{texts_of}
use Rattle.tree_backup.proofs.Strings.{passed_on, memory_end}
use Rattle.tree_backup.proofs.checking.first_mismatch.Goals as goal

pub returns-in_err-digests-clause-admits : goal.returns-in_err-digests-clause-admits
returns-in_err-digests-clause-admits g c = passed_on c.from_residual.result c.in_err-digests.field-0.0 _ (λ r. AdmitsAll g.H.Hasher16.kept g.H.Hasher16.clashes g.H.Hasher16.fulls (texts_of c.args.items.now) c.args.hasher.now r c.hash_objects.new.hasher) c.from_residual.ensures.0 c.from_residual.ensures.1 (λ d h. h) c.in_err-digests.ensures.admits

pub returns-in-Ok-clause-admits : goal.returns-in-Ok-clause-admits
returns-in-Ok-clause-admits g c = c.in_ok-digests.ensures.admits

pub returns-clause-admits : goal.returns-clause-admits
returns-clause-admits g c = memory_end g.H.Hasher16.kept g.H.Hasher16.clashes g.H.Hasher16.fulls (texts_of c.args.items.now) c.args.hasher.now c.hash_objects.new.hasher c.in_ok-digests.ensures.admits
