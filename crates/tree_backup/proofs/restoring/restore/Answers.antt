use Rattle.std.proofs.Common.{◌∙◌, List, [], Err, refl, sym, subst, inl}
use Rattle.stored_formats.specs.declared.object.Object.{Object}
use Rattle.synctree.specs.Sixteen.{form_of}
use Rattle.tree_node.specs.declared.version.TreeVersion.TheVariants.{Two}
use Rattle.tree_repair.specs.Rebuilds.{rebuild_plan}
use Rattle.tree_backup.specs.Stores.{Puts}
use Rattle.tree_backup.proofs.Faults.{rebuild_outside, rebuilds_as, did_rose, error_is}
use Rattle.tree_backup.proofs.Kept.{all_stand}
use Rattle.tree_backup.proofs.restoring.restore.Goals as goal

pub returns-in-Err-clause-did : goal.returns-in-Err-clause-did
returns-in-Err-clause-did g c =
    rw c.tree_error.ensures (
      rebuild_outside g.N.NodeStore.may_answer g.N.NodeStore.may_refuse g.N.NodeStore.top_record g.N.NodeStore.fault_count g.H.Hasher16.kept g.H.Hasher16.clashes g.H.Hasher16.fulls (form_of Two) c.as_slice.result.now (c.args.tree.now.store, c.args.hasher.now) (c.rebuild.new.tree.store, c.rebuild.new.hasher) c.in-Err.error c.in-Err.ensures.did.0,
      inl (c.in-Err.error, refl, rebuilds_as g.N.NodeStore.may_answer g.N.NodeStore.may_refuse g.N.NodeStore.top_record g.N.NodeStore.fault_count g.H.Hasher16.kept g.H.Hasher16.clashes g.H.Hasher16.fulls c.as_slice.result.now c.args.content.now.entries (c.args.tree.now.store, c.args.hasher.now) (c.rebuild.new.tree.store, c.rebuild.new.hasher) c.args.tree.now.top c.rebuild.new.tree.top (Err c.in-Err.error) c.as_slice.ensures c.in-Err.ensures.did, refl),
    )

pub returns-in-Err-clause-failed : goal.returns-in-Err-clause-failed
returns-in-Err-clause-failed g c = λ is. inl (did_rose g.N.NodeStore.may_answer g.N.NodeStore.may_refuse g.N.NodeStore.top_record g.N.NodeStore.fault_count g.H.Hasher16.kept g.H.Hasher16.clashes g.H.Hasher16.fulls (rebuild_plan (form_of Two) c.as_slice.result.now) (c.args.tree.now.store, c.args.hasher.now) (c.rebuild.new.tree.store, c.rebuild.new.hasher) c.in-Err.error (sym c.tree_error.ensures ∙ error_is (Unit {0}) _ _ is) c.in-Err.ensures.did.0)

pub returns-in-Ok-put_all-clause-holds : goal.returns-in-Ok-put_all-clause-holds
returns-in-Ok-put_all-clause-holds g c = λ has tells. all_stand g.B.Backend.may_answer has tells [] c.args.content.now.objects c.args.backend.now c.put_all.new.backend c.requires.objects (subst (λ (os : List Object). Puts g.B.Backend.may_answer os c.args.backend.now c.put_all.new.backend) c.as_slice-in-Ok.ensures c.in-Ok-put_all.ensures.did)
