use Rattle.std.proofs.Common.{◌∙◌, ◌+◌, ap, sym, subst, take, length, List}
use Rattle.synctree.specs.Sixteen.{form_of}
use Rattle.tree_repair.specs.declared.slot.Slot.{Slot}
use Rattle.tree_repair.specs.Slots.{AreSlots}
use Rattle.synctree.proofs.Slices.{take_all}
use Rattle.tree_repair.proofs.Stepping.{level_next, level_are, next_height}
use Rattle.tree_repair.proofs.step.next_level.Goals as goal

pub loop-i-preserved : goal.loop-i-preserved
loop-i-preserved c = (c.in_ok-push_below.ensures).ok ∙ level_next (form_of c.args.version) c.loop-i.i c.args.slots.now c.as_slice-reads.result.now c.index-slots-i.result c.index-reads-i.result c.loop-i.next.items (ap length c.as_slice-reads.ensures ∙ (c.requires).reads) c.loop-i-test.true c.index-slots-i.is c.index-reads-i.is c.loop-i.invariant

pub returns-clause-slots : goal.returns-clause-slots
returns-clause-slots c = subst (λ (xs : List Slot). AreSlots c.args.version c.args.height xs) (sym (c.new.ensures ∙ c.loop-i.invariant))
    (level_are c.args.version c.args.height (take c.loop-i.i c.args.slots.now) (take c.loop-i.i c.as_slice-reads.result.now) (next_height c.args.version c.args.height (take c.loop-i.i c.args.slots.now) (subst (λ (xs : List Slot). AreSlots c.args.version (c.args.height + 1) xs) (sym (take_all c.args.slots.now c.loop-i.i c.loop-i-test.false)) (c.requires).slots)))
