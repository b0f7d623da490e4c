use Rattle.std.proofs.Common.{◌∙◌, ap, arith, length}
use Rattle.tree_node.proofs.TreeVersionLaws.{position_deepest}
use Rattle.tree_repair.proofs.Stepping.{inner_width, above_last}
use Rattle.tree_repair.proofs.step.push_below.Goals as goal

pub push_children-requires-clause-width : goal.push_children-requires-clause-width
push_children-requires-clause-width c = let wide = ap length c.as_slice.ensures ∙ inner_width c.args.version c.args.slot.at c.args.slot.digest c.args.read.now c.in-Some.names (c.in_ok-names.ensures ∙ c.in-Some.is) in omega (arith, wide)

pub push_children-requires-clause-position : goal.push_children-requires-clause-position
push_children-requires-clause-position c = position_deepest c.args.version c.args.slot.at c.requires.slot.position

pub push_children-requires-clause-above : goal.push_children-requires-clause-above
push_children-requires-clause-above c = above_last c.args.version c.args.height c.args.slot.at c.args.slot.digest c.args.read.now c.in-Some.names c.requires.slot.below (c.in_ok-names.ensures ∙ c.in-Some.is)
