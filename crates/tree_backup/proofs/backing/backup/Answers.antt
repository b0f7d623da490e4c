use Rattle.tree_backup.specs.Order.{Rises}
use Rattle.std.proofs.Common.{◌∙◌, ℕ, [], rules, inl, inr, refl, sym}
use Rattle.std.specs.Prelude.{Vec}
use Rattle.std.specs.declared.alloc.Global.{Global}
use Rattle.synctree.specs.Sixteen.{form_of}
use Rattle.tree_repair.specs.Levels.{scan_plan}
use Rattle.tree_backup.proofs.Faults.{scan_outside, did_rose, error_is, scan_rises}
use Rattle.tree_backup.proofs.backing.backup.Goals as goal

pub returns-in-Err-clause-did : goal.returns-in-Err-clause-did
returns-in-Err-clause-did g c = rw c.tree_error.ensures (inr (c.in-Err.error, scan_outside g.N.NodeStore.may_answer g.N.NodeStore.may_refuse g.N.NodeStore.top_record g.N.NodeStore.fault_count g.H.Hasher16.kept g.H.Hasher16.clashes g.H.Hasher16.fulls (form_of c.args.tree.now.version) c.args.tree.now.top (c.args.tree.now.store, c.args.hasher.now) (c.scan.new.tree.store, c.scan.new.hasher) c.in-Err.error c.in-Err.ensures.did, refl, c.in-Err.ensures.did, refl))

pub returns-in-Ok-clause-did : goal.returns-in-Ok-clause-did
returns-in-Ok-clause-did g c = inl (c.in-Ok.found, c.scan.new.hasher, c.in-Ok.ensures.did, c.back_up_scan.ensures.did)

pub returns-in-Err-clause-failed : goal.returns-in-Err-clause-failed
returns-in-Err-clause-failed g c = λ is. inl (did_rose g.N.NodeStore.may_answer g.N.NodeStore.may_refuse g.N.NodeStore.top_record g.N.NodeStore.fault_count g.H.Hasher16.kept g.H.Hasher16.clashes g.H.Hasher16.fulls (scan_plan (form_of c.args.tree.now.version) c.args.tree.now.top) (c.args.tree.now.store, c.args.hasher.now) (c.scan.new.tree.store, c.scan.new.hasher) c.in-Err.error (sym c.tree_error.ensures ∙ error_is (Vec ℕ Global) _ _ is) c.in-Err.ensures.did)

pub returns-in-Ok-clause-failed : goal.returns-in-Ok-clause-failed
returns-in-Ok-clause-failed g c = λ is. inr (c.back_up_scan.ensures.failed is)

pub back_up_scan-requires-clause-rises : goal.back_up_scan-requires-clause-rises
back_up_scan-requires-clause-rises g c =
    let rises : Rises [] c.in-Ok.found.entries = scan_rises g.N.NodeStore.may_answer g.N.NodeStore.may_refuse g.N.NodeStore.top_record g.N.NodeStore.fault_count g.H.Hasher16.kept g.H.Hasher16.clashes g.H.Hasher16.fulls (form_of c.args.tree.now.version) c.args.tree.now.top (c.args.tree.now.store, c.args.hasher.now) (c.scan.new.tree.store, c.scan.new.hasher) c.in-Ok.found c.in-Ok.ensures.did in
    search rules
