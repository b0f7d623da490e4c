use Rattle.tree_node.proofs.PositionLaws.{position_grammar}
use Rattle.tree_node.proofs.laws.positions_have_a_grammar.Goals as goal

pub returns : goal.returns
returns c = position_grammar
