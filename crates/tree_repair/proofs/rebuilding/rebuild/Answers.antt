use Rattle.std.proofs.Common.{◌∙◌, ap, refl, Some}
use Rattle.std.proofs.lemmas.Result.{on_ok_weaker}
use Rattle.synctree.specs.Sixteen.{form_of}
use Rattle.tree_repair.proofs.Rebuilds.{not_built, rebuilt}
use Rattle.tree_repair.specs.declared.built.Built.{Built}
use Rattle.tree_repair.proofs.rebuilding.rebuild.Goals as goal

pub returns-in-Err-clause-did : goal.returns-in-Err-clause-did
returns-in-Err-clause-did g c = rw c.tree_error.ensures (not_built g.N.NodeStore.may_answer g.N.NodeStore.may_refuse g.N.NodeStore.top_record g.N.NodeStore.fault_count g.H.Hasher16.kept g.H.Hasher16.clashes g.H.Hasher16.fulls (form_of c.args.tree.now.version) c.args.entries.now c.args.tree.now.store c.args.hasher.now c.build.new.hasher c.in-Err.error (rw c.version.ensures at (c.in-Err.ensures).admits), refl)

pub returns-clause-did : goal.returns-clause-did
returns-clause-did g c = rebuilt g.N.NodeStore.may_answer g.N.NodeStore.may_refuse g.N.NodeStore.top_record g.N.NodeStore.fault_count g.H.Hasher16.kept g.H.Hasher16.clashes g.H.Hasher16.fulls (form_of c.args.tree.now.version) c.args.entries.now c.in-Ok.built c.args.tree.now.store c.install.new.tree.store c.args.hasher.now c.build.new.hasher c.args.tree.now.top c.install.new.tree.top c.install.result
    (rw c.version.ensures at (c.in-Ok.ensures).built) (rw c.version.ensures at (c.in-Ok.ensures).admits) c.install.ensures.did

pub returns-clause-top : goal.returns-clause-top
returns-clause-top g c = on_ok_weaker c.install.result (λ h. h ∙ ap (λ (b : Built). Some b.top) (rw c.version.ensures at (c.in-Ok.ensures).built)) c.install.ensures.top

pub returns-clause-stands : goal.returns-clause-stands
returns-clause-stands g c = on_ok_weaker c.install.result (λ h m. h c.args.tree.now.version c.args.entries.now m (rw c.version.ensures at (c.in-Ok.ensures).built)) c.install.ensures.stands
