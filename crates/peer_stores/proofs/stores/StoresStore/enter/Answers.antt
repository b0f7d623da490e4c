use Rattle.std.proofs.Common.{refl}
use Rattle.peer_stores.proofs.TreeCounts.{entered}
use Rattle.peer_stores.proofs.stores.StoresStore.enter.Goals as goal

pub returns : goal.returns
returns g c = rw c.walked.ensures (entered g.N.NodeStore.may_answer g.N.NodeStore.may_refuse g.N.NodeStore.top_record g.N.NodeStore.fault_count g.H.Hasher16.kept g.H.Hasher16.clashes g.H.Hasher16.fulls (c.args.self.now, c.args.hasher.now) (record c.args.self.now { tree = c.insert.new.self }, c.insert.new.hasher) (refl, refl) g.B.Backend.may_answer g.B.Backend.may_refuse g.B.Backend.fault_count g.F.FactKeeper.may_answer g.F.FactKeeper.may_refuse g.F.FactKeeper.kept g.F.FactKeeper.fault_count c.args.entry.now c.insert.result c.insert.ensures.version_is c.insert.ensures.did)
