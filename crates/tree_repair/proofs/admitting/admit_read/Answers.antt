use Rattle.tree_repair.proofs.Loops.{admit_did}
use Rattle.tree_repair.proofs.admitting.admit_read.Goals as goal

pub returns-in-Some-found : goal.returns-in-Some-found
returns-in-Some-found g c = admit_did g.H.Hasher16.kept g.H.Hasher16.clashes g.H.Hasher16.fulls c.args.read.now c.in-Some.bytes c.as_slice.result.now c.args.hasher.now c.admit.new.hasher c.admit.result c.in-Some.is c.as_slice.ensures c.admit.ensures
