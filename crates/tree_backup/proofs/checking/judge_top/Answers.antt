use Rattle.std.proofs.Common.{◌∙◌, List, [], ap, sym, subst, rules}
use Rattle.ens_base.specs.declared.entry.Entry.{Entry}
use Rattle.synctree.specs.Sixteen.{form_of}
use Rattle.tree_node.specs.Entries.{AreAbove}
use Rattle.tree_node.specs.declared.version.TreeVersion.TheVariants.{Two}
use Rattle.tree_repair.specs.Admitting.{Admitted, Rejected}
use Rattle.tree_repair.specs.Builds.{build_nodes}
use Rattle.tree_repair.specs.declared.built.Built.{Built}
use Rattle.tree_backup.specs.Checks.{top_of}
use Rattle.tree_backup.specs.Items.{entries_of}
use Rattle.tree_backup.specs.declared.item.Content.{Content}
use Rattle.tree_backup.proofs.Ascending.{entries_above}
use Rattle.tree_backup.proofs.Judged.{passes_hash, judged_under}
use Rattle.tree_backup.proofs.Strings.{hashed_err, hashed_judged, passed_on}
use Rattle.tree_backup.specs.Hashed.{Hashed}
use Rattle.tree_backup.specs.declared.error.BackupError.TheVariants.{Memory}
use Rattle.tree_repair.proofs.Admissions.{memory_rejects}
use Rattle.tree_backup.proofs.checking.judge_top.Goals as goal

pub build-requires : goal.build-requires
build-requires g c =
    let above : AreAbove [] c.as_slice.result.now = subst (λ (es : List Entry). AreAbove [] es) (sym (c.as_slice.ensures ∙ ap (λ (x : Content). x.entries) c.in_ok-content.ensures)) (entries_above [] c.args.items c.requires.items) in
    search rules

pub returns-in_err-content-clause-hashed : goal.returns-in_err-content-clause-hashed
returns-in_err-content-clause-hashed g c = passed_on c.from_residual.result Memory _ (λ r. Hashed g.H.Hasher16.kept g.H.Hasher16.clashes g.H.Hasher16.fulls (build_nodes (form_of Two) (entries_of c.args.items)) c.args.hasher.now r c.args.hasher.now) c.from_residual.ensures.0 c.from_residual.ensures.1 (λ d h. h) (memory_rejects g.H.Hasher16.kept g.H.Hasher16.clashes g.H.Hasher16.fulls (build_nodes (form_of Two) (entries_of c.args.items)) c.args.hasher.now)

pub returns-in-Ok-clause-exact : goal.returns-in-Ok-clause-exact
returns-in-Ok-clause-exact g c = judged_under c.under.result c.args.top c.in-Ok.built.top c.in_ok-content.content c.args.items c.under.ensures (ap (λ (b : Built). b.top) c.in-Ok.ensures.built ∙ ap top_of (c.as_slice.ensures ∙ ap (λ (x : Content). x.entries) c.in_ok-content.ensures)) c.in_ok-content.ensures

pub returns-in-Ok-clause-hashed : goal.returns-in-Ok-clause-hashed
returns-in-Ok-clause-hashed g c = hashed_judged g.H.Hasher16.kept g.H.Hasher16.clashes g.H.Hasher16.fulls c.under.result c.args.top c.in-Ok.built.top c.in_ok-content.content (build_nodes (form_of Two) (entries_of c.args.items)) c.args.hasher.now c.build.new.hasher c.under.ensures
    (subst (λ (es : List Entry). Admitted g.H.Hasher16.kept g.H.Hasher16.clashes g.H.Hasher16.fulls (build_nodes (form_of Two) es) c.args.hasher.now c.build.new.hasher) (c.as_slice.ensures ∙ ap (λ (x : Content). x.entries) c.in_ok-content.ensures) c.in-Ok.ensures.admits)

pub returns-in-Err-clause-exact : goal.returns-in-Err-clause-exact
returns-in-Err-clause-exact g c = rw c.hash_error.ensures (passes_hash c.in-Err.error _)

pub returns-in-Err-clause-hashed : goal.returns-in-Err-clause-hashed
returns-in-Err-clause-hashed g c = rw c.hash_error.ensures (hashed_err g.H.Hasher16.kept g.H.Hasher16.clashes g.H.Hasher16.fulls Content (build_nodes (form_of Two) (entries_of c.args.items)) c.args.hasher.now c.build.new.hasher c.in-Err.error
    (subst (λ (es : List Entry). Rejected g.H.Hasher16.kept g.H.Hasher16.clashes g.H.Hasher16.fulls (build_nodes (form_of Two) es) c.args.hasher.now c.in-Err.error c.build.new.hasher) (c.as_slice.ensures ∙ ap (λ (x : Content). x.entries) c.in_ok-content.ensures) c.in-Err.ensures.admits))
