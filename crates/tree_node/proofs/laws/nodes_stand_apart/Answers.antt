use Rattle.tree_node.proofs.NodeLaws.{inner_grammar, segment_grammar, inner_apart, segments_apart, kinds_apart}
use Rattle.tree_node.proofs.laws.nodes_stand_apart.Goals as goal

pub returns-clause-inner_grammar : goal.returns-clause-inner_grammar
returns-clause-inner_grammar c = inner_grammar

pub returns-clause-segment_grammar : goal.returns-clause-segment_grammar
returns-clause-segment_grammar c = segment_grammar

pub returns-clause-inner : goal.returns-clause-inner
returns-clause-inner c = inner_apart

pub returns-clause-segments : goal.returns-clause-segments
returns-clause-segments c = segments_apart

pub returns-clause-kinds : goal.returns-clause-kinds
returns-clause-kinds c = kinds_apart
