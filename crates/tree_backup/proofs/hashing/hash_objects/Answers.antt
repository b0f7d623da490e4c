use Rattle.std.proofs.Common.{◌∙◌, Ok, Err}
use Rattle.tree_repair.proofs.Admissions.{memory_at_once}
use Rattle.tree_repair.specs.Admitting.{AdmitsAll}
use Rattle.tree_backup.specs.Checks.{texts_of}
use Rattle.tree_backup.proofs.Strings.{passed_on, texts_admitted, out_of_memory}
use Rattle.tree_backup.proofs.hashing.hash_objects.Goals as goal

pub returns-in_err-texts-clause-admits : goal.returns-in_err-texts-clause-admits
returns-in_err-texts-clause-admits g c = passed_on c.from_residual.result c.in_err-texts.field-0.0 _ (λ r. AdmitsAll g.H.Hasher16.kept g.H.Hasher16.clashes g.H.Hasher16.fulls (texts_of c.args.items.now) c.args.hasher.now r c.args.hasher.now) c.from_residual.ensures.0 c.from_residual.ensures.1 (λ d h. h)
    (out_of_memory g.H.Hasher16.kept g.H.Hasher16.clashes g.H.Hasher16.fulls (texts_of c.args.items.now) c.args.hasher.now c.in_err-texts.field-0.0 c.in_err-texts.ensures.memory)

pub returns-in_err-found-clause-admits : goal.returns-in_err-found-clause-admits
returns-in_err-found-clause-admits g c = memory_at_once g.H.Hasher16.kept g.H.Hasher16.clashes g.H.Hasher16.fulls (texts_of c.args.items.now) c.args.hasher.now c.from_residual-in_err-found.result _ c.from_residual-in_err-found.ensures.0 c.from_residual-in_err-found.ensures.1 (λ d h. h)

pub returns-in_err-admit_all-clause-admits : goal.returns-in_err-admit_all-clause-admits
returns-in_err-admit_all-clause-admits g c = passed_on c.from_residual-in_err-admit_all.result c.in_err-admit_all.field-0.0 _ (λ r. AdmitsAll g.H.Hasher16.kept g.H.Hasher16.clashes g.H.Hasher16.fulls (texts_of c.args.items.now) c.args.hasher.now r c.admit_all.new.hasher) c.from_residual-in_err-admit_all.ensures.0 c.from_residual-in_err-admit_all.ensures.1 (λ d h. h)
    (texts_admitted g.H.Hasher16.kept g.H.Hasher16.clashes g.H.Hasher16.fulls (Unit {0}) c.as_slice-2.result.now c.args.items.now c.args.hasher.now c.admit_all.new.hasher (Err c.in_err-admit_all.field-0.0) (c.as_slice-2.ensures.value ∙ c.in_ok-texts.ensures.ok) c.in_err-admit_all.ensures)

pub returns-clause-admits : goal.returns-clause-admits
returns-clause-admits g c = texts_admitted g.H.Hasher16.kept g.H.Hasher16.clashes g.H.Hasher16.fulls (Unit {0}) c.as_slice-2.result.now c.args.items.now c.args.hasher.now c.admit_all.new.hasher (Ok tt) (c.as_slice-2.ensures.value ∙ c.in_ok-texts.ensures.ok) c.in_ok-admit_all.ensures
