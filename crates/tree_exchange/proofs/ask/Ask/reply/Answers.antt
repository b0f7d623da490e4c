use Rattle.tree_node.proofs.TreeVersionLaws.{position_deepest}
use Rattle.tree_exchange.proofs.ask.Ask.reply.Goals as goal

pub take_page-requires : goal.take_page-requires
take_page-requires c = position_deepest c.args.version c.args.at c.requires
