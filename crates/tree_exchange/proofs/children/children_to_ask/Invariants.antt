use Rattle.std.proofs.Common.{◌≡◌, ◌++◌, drop}
use Rattle.tree_node.specs.declared.version.TreeVersion.{TreeVersion}
use Rattle.tree_exchange.specs.Asks.{to_ask}
use Rattle.tree_exchange.proofs.children.children_to_ask.Given as goal

abbrev pub invariant-loop-i : goal.invariant-loop-i
invariant-loop-i l = (tree : TreeVersion) → to_ask tree l.damaged l.at l.own 0 l.names ≡ l.asked.items ++ to_ask tree l.damaged l.at l.own l.i (drop l.i l.names)
