use Rattle.std.proofs.Common.{arith}
use Rattle.tree_node.proofs.TreeVersionLaws.{levels_few, position_deepest}
use Rattle.tree_exchange.proofs.ask.Ask.take_inner.Goals as goal

pub children_to_ask-requires-clause-position : goal.children_to_ask-requires-clause-position
children_to_ask-requires-clause-position c = position_deepest c.args.version c.args.at c.requires.position

pub children_to_ask-requires-clause-above : goal.children_to_ask-requires-clause-above
children_to_ask-requires-clause-above c = omega (arith, c.requires.above, levels_few c.args.version)
