use Rattle.std.proofs.Common.{◌∙◌, ◌+◌, ◌*◌, ap, sym, arith, ℕ}
use Rattle.synctree.specs.TreeNode.{Two}
use Rattle.synctree.proofs.Places.{child_is, index_room}
use Rattle.synctree.proofs.shape.child.Goals as goal

pub overflow_mul-result : goal.overflow_mul-result
overflow_mul-result c = let room = index_room Two c.args.at c.args.digit c.requires.position c.requires.above c.requires.digit in omega (arith, room)

pub overflow_add-result-2 : goal.overflow_add-result-2
overflow_add-result-2 c = let room = index_room Two c.args.at c.args.digit c.requires.position c.requires.above c.requires.digit in omega (arith, room, c.from.ensures)

pub returns : goal.returns
returns c = λ v. ap (λ (n : ℕ). record { level = c.args.at.level + 1; index = 16 * c.args.at.index + n }) c.from.ensures ∙ sym (child_is v c.args.at c.args.digit)
