use Rattle.std.proofs.Common.{refl}
use Rattle.peer_stores.proofs.TreeCounts.{found}
use Rattle.peer_stores.proofs.stores.StoresStore.find.Goals as goal

pub returns : goal.returns
returns g c = rw c.walked.ensures (found g.N.NodeStore.may_answer g.N.NodeStore.may_refuse g.N.NodeStore.top_record g.N.NodeStore.fault_count g.H.Hasher16.kept g.H.Hasher16.clashes g.H.Hasher16.fulls (c.args.self.now, c.args.hasher.now) (record c.args.self.now { tree = c.get.new.self }, c.get.new.hasher) (refl, refl) g.B.Backend.may_answer g.B.Backend.may_refuse g.B.Backend.fault_count g.F.FactKeeper.may_answer g.F.FactKeeper.may_refuse g.F.FactKeeper.kept g.F.FactKeeper.fault_count c.args.key.now c.get.result c.get.ensures.top c.get.ensures.version_is c.get.ensures.did)
