use Rattle.std.proofs.Common.{ℕ, List, ap, ◌∙◌, sym, rules}
use Rattle.slot_disk.specs.Crash.{written}
use Rattle.slot_disk.proofs.Recorded.{write_recorded}
use Rattle.slot_disk.proofs.memory.MemDisk.write.Goals as goal

pub invariant_of-self : goal.invariant_of-self
invariant_of-self c =
    let file = c.args.self.now in
    let after = write_recorded file.first.items file.log.items c.args.bytes.now c.add_bytes.new.log.items file.steps.items c.add_step.new.taken.items c.args.at c.add_bytes.ensures.items (search rules) file.kept in
    record {
      stands = c.put.ensures.written ∙ ap (λ (l : List ℕ). written l c.args.at c.args.bytes.now) file.stands ∙ sym after.seen;
      kept = after.within;
      bytes_fit = search rules;
      log_fits = search rules;
      steps_fit = search rules;
    }
