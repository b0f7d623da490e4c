use Rattle.std.proofs.Common.{◌∙◌}
use Rattle.synctree.specs.Sixteen.{form_of}
use Rattle.tree_repair.proofs.Stepping.{children_next}
use Rattle.tree_repair.proofs.step.push_children.Goals as goal

pub loop-i-preserved : goal.loop-i-preserved
loop-i-preserved c = λ v. (c.in_ok-push_child.ensures).ok v ∙ children_next (form_of v) c.args.at c.loop-i.i c.args.names.now c.index-names-i.result c.args.slots.now.items c.loop-i.slots.items c.loop-i-test.true c.index-names-i.is (c.loop-i.invariant v)
