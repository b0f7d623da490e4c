use Rattle.tree_exchange.proofs.Widths.{children_width}
use Rattle.tree_exchange.proofs.taking.children_of_node.Goals as goal

pub returns-in-Ok-clause-width : goal.returns-in-Ok-clause-width
returns-in-Ok-clause-width c = children_width c.args.node.now.mask c.args.node.now.digests c.in-Ok.names (c.in-Ok.ensures).ok
