use Rattle.std.proofs.Common.{◌≡◌, ◌∙◌, ap, List, take, get_or, arith}
use Rattle.std.proofs.lemmas.List.{take_more, take_all}
use Rattle.slot_disk.specs.declared.step.Step.TheVariants as steps
use Rattle.slot_disk.specs.Images.{image_of}
use Rattle.slot_disk.specs.MemDisks.{history}
use Rattle.slot_disk.specs.Steps.{deeds}
use Rattle.slot_disk.specs.declared.step.Step.{Step}
use Rattle.slot_disk.proofs.Moments.{replayed, image_possible}
use Rattle.slot_disk.proofs.memory.MemDisk.crash.Goals as goal

pub loop-step-preserved : goal.loop-step-preserved
loop-step-preserved c =
    let items = c.deref-step-items.result.now in
    let i = c.loop-step.step-index in
    replayed c.args.image c.args.self.now.first.items c.args.self.now.log.items items i (get_or items i (steps.Write 0 0 0)) c.loop-step.replay.solid.items c.loop-step.replay.left.items c.advance.new.self.solid.items c.advance.new.self.left.items
    (take_more items i (steps.Write 0 0 0) (omega (arith, c.loop-step-test.true)))
    c.loop-step.invariant
    (rw c.deref-in-loop-step.ensures.value at c.in_ok-advance.ensures)

pub returns-clause-possible : goal.returns-clause-possible
returns-clause-possible c =
    let disk = c.args.self.now in
    let items = c.deref-step-items.result.now in
    let i = c.loop-step.step-index in
    let whole : take i items ≡ disk.steps.items = take_all i items (omega (arith, c.loop-step-test.false)) ∙ c.deref-step-items.ensures.value in
    image_possible c.args.image disk.first.items (history disk) c.loop-step.replay.left.items
    (c.loop-step.invariant.is_left ∙ ap (λ (l : List Step). image_of c.args.image disk.first.items (deeds disk.log.items l)) whole)
