use Rattle.std.proofs.Common.{◌∙◌, sym, rules}
use Rattle.slot_disk.proofs.Recorded.{sync_recorded}
use Rattle.slot_disk.proofs.memory.MemDisk.settle.Goals as goal

pub invariant_of-self : goal.invariant_of-self
invariant_of-self c =
    let file = c.args.self.now in
    let after = sync_recorded file.first.items file.log.items file.steps.items _ c.add_step.ensures.items file.kept in
    record { stands = file.stands ∙ sym after.seen; kept = after.within; bytes_fit = search rules; log_fits = search rules; steps_fit = search rules }
