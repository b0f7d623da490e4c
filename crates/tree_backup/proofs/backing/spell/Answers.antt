use Rattle.std.proofs.Common.{◌≡◌, ◌∙◌, ◌<◌, ◌^◌, List, ap, length, subst, map}
use Rattle.std.specs.List.{AllByRecursion}
use Rattle.synctree.specs.Sixteen.{form_of}
use Rattle.tree_node.specs.declared.version.TreeVersion.TheVariants.{Two}
use Rattle.tree_repair.specs.Admitting.{AdmitsAll}
use Rattle.tree_repair.specs.Builds.{build_nodes}
use Rattle.tree_repair.specs.declared.built.Built.{Built}
use Rattle.tree_repair.proofs.Admissions.{admitted_append, rejected_first, rejected_then}
use Rattle.tree_backup.specs.Checks.{backup_with, texts_of}
use Rattle.tree_backup.specs.Items.{IsItem, backup_spelling}
use Rattle.tree_backup.specs.Runs.{matched, backup_strings}
use Rattle.tree_backup.specs.declared.item.Item.{Item}
use Rattle.tree_backup.proofs.Judged.{wrote}
use Rattle.tree_backup.proofs.Strings.{passed_on, memory_end}
use Rattle.tree_backup.proofs.backing.spell.Goals as goal

pub returns-in_err-digests-clause-admits : goal.returns-in_err-digests-clause-admits
returns-in_err-digests-clause-admits g c = passed_on c.from_residual.result c.in_err-digests.field-0.0 _ (λ r. AdmitsAll g.H.Hasher16.kept g.H.Hasher16.clashes g.H.Hasher16.fulls (backup_strings c.args.entries.now c.args.items.items) c.args.hasher.now r c.hash_objects.new.hasher) c.from_residual.ensures.0 c.from_residual.ensures.1 (λ d h. h)
    (rejected_first g.H.Hasher16.kept g.H.Hasher16.clashes g.H.Hasher16.fulls (texts_of c.args.items.items) (build_nodes (form_of Two) c.args.entries.now) c.args.hasher.now c.hash_objects.new.hasher c.in_err-digests.field-0.0 (rw c.as_slice.ensures.value at c.in_err-digests.ensures.admits))

pub returns-in_err-built-clause-admits : goal.returns-in_err-built-clause-admits
returns-in_err-built-clause-admits g c = passed_on c.from_residual-in_err-built.result c.in_err-built.field-0.0 _ (λ r. AdmitsAll g.H.Hasher16.kept g.H.Hasher16.clashes g.H.Hasher16.fulls (backup_strings c.args.entries.now c.args.items.items) c.args.hasher.now r c.build.new.hasher) c.from_residual-in_err-built.ensures.0 c.from_residual-in_err-built.ensures.1 (λ d h. h)
    (rejected_then g.H.Hasher16.kept g.H.Hasher16.clashes g.H.Hasher16.fulls (texts_of c.args.items.items) (build_nodes (form_of Two) c.args.entries.now) c.args.hasher.now c.hash_objects.new.hasher c.build.new.hasher c.in_err-built.field-0.0 (rw c.as_slice.ensures.value at c.in_ok-digests.ensures.admits) c.in_err-built.ensures.admits)

pub returns-in-Ok-clause-admits : goal.returns-in-Ok-clause-admits
returns-in-Ok-clause-admits g c = admitted_append g.H.Hasher16.kept g.H.Hasher16.clashes g.H.Hasher16.fulls (texts_of c.args.items.items) (build_nodes (form_of Two) c.args.entries.now) c.args.hasher.now c.hash_objects.new.hasher c.build.new.hasher (rw c.as_slice.ensures.value at c.in_ok-digests.ensures.admits) c.in_ok-built.ensures.admits

pub returns-clause-admits : goal.returns-clause-admits
returns-clause-admits g c = memory_end g.H.Hasher16.kept g.H.Hasher16.clashes g.H.Hasher16.fulls (backup_strings c.args.entries.now c.args.items.items) c.args.hasher.now c.build.new.hasher
    (admitted_append g.H.Hasher16.kept g.H.Hasher16.clashes g.H.Hasher16.fulls (texts_of c.args.items.items) (build_nodes (form_of Two) c.args.entries.now) c.args.hasher.now c.hash_objects.new.hasher c.build.new.hasher (rw c.as_slice.ensures.value at c.in_ok-digests.ensures.admits) c.in_ok-built.ensures.admits)

pub returns-in-Ok-clause-spells : goal.returns-in-Ok-clause-spells
returns-in-Ok-clause-spells g c =
    let kept : c.as_slice-3.result.now ≡ map matched c.args.items.items = c.as_slice-3.ensures.value ∙ c.without_strays-kept.ensures in
    wrote c.args.entries.now c.args.items.items c.in-Ok.bytes.items c.in_ok-built.built.top c.requires.same c.requires.above (ap (λ (b : Built). b.top) c.in_ok-built.ensures.built)
    (c.in-Ok.ensures.ok ∙ ap (λ (xs : List Item). backup_spelling (backup_with c.in_ok-built.built.top xs)) kept)
    (subst (λ (xs : List Item). length xs < 2 ^ 32) kept c.in-Ok.ensures.few)
    (subst (λ (xs : List Item). AllByRecursion IsItem xs) kept c.in-Ok.ensures.valid)
