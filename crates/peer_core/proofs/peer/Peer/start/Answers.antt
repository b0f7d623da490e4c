use Rattle.std.proofs.Common.{[]}
use Rattle.peer_spec.specs.Starts.{start_of}
use Rattle.peer_core.proofs.Counts.{start_backend, start_only, stopped_cause}
use Rattle.peer_core.proofs.peer.Peer.start.Goals as goal

pub returns-in-Err-clause-untouched : goal.returns-in-Err-clause-untouched
returns-in-Err-clause-untouched g c = start_backend g.B.Backend.may_answer g.B.Backend.may_refuse g.B.Backend.fault_count g.N.NodeStore.may_answer g.N.NodeStore.may_refuse g.N.NodeStore.top_record g.N.NodeStore.fault_count g.F.FactKeeper.may_answer g.F.FactKeeper.may_refuse g.F.FactKeeper.kept g.F.FactKeeper.fault_count g.H.Hasher16.kept g.H.Hasher16.clashes g.H.Hasher16.fulls c.args.mode c.args.opening (c.args.stores, c.args.hasher.now) [] c.in-Err.error (c.start.new.stores, c.start.new.hasher) [] c.in-Err.ensures.starts

pub returns-in-Err-clause-causes : goal.returns-in-Err-clause-causes
returns-in-Err-clause-causes g c = stopped_cause g.B.Backend.may_answer g.B.Backend.may_refuse g.B.Backend.fault_count g.N.NodeStore.may_answer g.N.NodeStore.may_refuse g.N.NodeStore.top_record g.N.NodeStore.fault_count g.F.FactKeeper.may_answer g.F.FactKeeper.may_refuse g.F.FactKeeper.kept g.F.FactKeeper.fault_count g.H.Hasher16.kept g.H.Hasher16.clashes g.H.Hasher16.fulls (start_of c.args.mode c.args.opening) (c.args.stores, c.args.hasher.now) [] c.in-Err.error (c.start.new.stores, c.start.new.hasher) [] c.in-Err.ensures.starts

pub returns-in-Err-clause-only : goal.returns-in-Err-clause-only
returns-in-Err-clause-only g c = start_only g.B.Backend.may_answer g.B.Backend.may_refuse g.B.Backend.fault_count g.N.NodeStore.may_answer g.N.NodeStore.may_refuse g.N.NodeStore.top_record g.N.NodeStore.fault_count g.F.FactKeeper.may_answer g.F.FactKeeper.may_refuse g.F.FactKeeper.kept g.F.FactKeeper.fault_count g.H.Hasher16.kept g.H.Hasher16.clashes g.H.Hasher16.fulls c.args.mode c.args.opening (c.args.stores, c.args.hasher.now) [] c.in-Err.error (c.start.new.stores, c.start.new.hasher) [] c.in-Err.ensures.starts

pub invariant_of-result : goal.invariant_of-result
invariant_of-result g c = record { is_peer = c.requires; young = λ on. c.in-Ok.ensures.young; steady = λ on. c.in-Ok.ensures.steady; own = λ on. c.in-Ok.ensures.own c.args.me }
