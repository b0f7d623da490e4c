use Rattle.std.proofs.Common.{refl}
use Rattle.peer_stores.proofs.TreeCounts.{fresh_ok, fresh_err}
use Rattle.peer_stores.proofs.stores.StoresStore.fresh_tree.Goals as goal

pub returns-in-Ok : goal.returns-in-Ok
returns-in-Ok g c = fresh_ok g.N.NodeStore.may_answer g.N.NodeStore.may_refuse g.N.NodeStore.top_record g.N.NodeStore.fault_count g.H.Hasher16.kept g.H.Hasher16.clashes g.H.Hasher16.fulls (c.args.self.now, c.args.hasher.now) (record c.args.self.now { tree = c.empty.new.self }, c.empty.new.hasher) (refl, refl) g.B.Backend.may_answer g.B.Backend.may_refuse g.B.Backend.fault_count g.F.FactKeeper.may_answer g.F.FactKeeper.may_refuse g.F.FactKeeper.kept g.F.FactKeeper.fault_count c.args.version tt c.in-Ok.ensures.version_is c.in-Ok.ensures.did

pub returns-in-Err : goal.returns-in-Err
returns-in-Err g c = rw c.tree_error.ensures (fresh_err g.N.NodeStore.may_answer g.N.NodeStore.may_refuse g.N.NodeStore.top_record g.N.NodeStore.fault_count g.H.Hasher16.kept g.H.Hasher16.clashes g.H.Hasher16.fulls (c.args.self.now, c.args.hasher.now) (record c.args.self.now { tree = c.empty.new.self }, c.empty.new.hasher) (refl, refl) g.B.Backend.may_answer g.B.Backend.may_refuse g.B.Backend.fault_count g.F.FactKeeper.may_answer g.F.FactKeeper.may_refuse g.F.FactKeeper.kept g.F.FactKeeper.fault_count c.args.version c.in-Err.error c.in-Err.ensures.unchanged c.in-Err.ensures.did)
