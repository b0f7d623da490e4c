use Rattle.std.proofs.Common.{rules}
use Rattle.slot_disk.specs.Steps.{deeds, CutTo}
use Rattle.slot_disk.proofs.Moments.{elapses}
use Rattle.slot_disk.proofs.memory.MemDiskDisk.cut.Goals as goal

pub returns-clause-time : goal.returns-clause-time
returns-clause-time c =
    let old = c.args.self.now in
    let new = c.answer.new.self in
    elapses old.first.items new.first.items (deeds old.log.items old.steps.items) (deeds new.log.items new.steps.items) (CutTo c.args.len) (search rules) (search rules)
