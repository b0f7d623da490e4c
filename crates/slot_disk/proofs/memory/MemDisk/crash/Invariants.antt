use Rattle.std.proofs.Common.{take}
use Rattle.slot_disk.specs.Images.{IsReplayed}
use Rattle.slot_disk.proofs.memory.MemDisk.crash.Given as goal

abbrev pub invariant-loop-step : goal.invariant-loop-step
invariant-loop-step l = IsReplayed l.image l.self.first.items l.self.log.items (take l.step-index l.step-items) l.replay.solid.items l.replay.left.items
