use Rattle.tree_repair.specs.Hashers.{digest_if}
use Rattle.tree_repair.proofs.Filling.{fills_more}
use Rattle.tree_repair.proofs.hashing.hash_whole.Goals as goal

pub loop-i-preserved : goal.loop-i-preserved
loop-i-preserved c = fills_more digest_if c.args.nodes.now c.args.found.now c.loop-i.found c.loop-i.i _ c.digest_of_node.result c.loop-i-test.true c.requires c.loop-i.invariant c.index-nodes-i.is c.digest_of_node.ensures
