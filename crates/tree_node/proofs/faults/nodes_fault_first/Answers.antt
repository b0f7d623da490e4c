use Rattle.fields.proofs.FirstFaultLaws.{field_faults}
use Rattle.tree_node.proofs.PositionLaws.{position_grammar}
use Rattle.tree_node.proofs.NodeLaws.{inner_grammar, segment_grammar}
use Rattle.tree_node.proofs.NodeFaults.{position_faults}
use Rattle.tree_node.proofs.WholeNodeFaults.{inner_first, segment_first}
use Rattle.tree_node.proofs.faults.nodes_fault_first.Goals as goal

pub returns-clause-position : goal.returns-clause-position
returns-clause-position c = λ v. field_faults (position_grammar v) (position_faults v)

pub returns-clause-inner : goal.returns-clause-inner
returns-clause-inner c = λ v asked ok. inner_first v asked ok (inner_grammar v asked ok)

pub returns-clause-segment : goal.returns-clause-segment
returns-clause-segment c = λ v asked ok. segment_first v asked ok (segment_grammar v asked ok)
