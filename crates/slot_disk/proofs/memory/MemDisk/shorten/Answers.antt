use Rattle.std.proofs.Common.{ℕ, List, take, ap, ◌∙◌, sym, rules}
use Rattle.slot_disk.proofs.Recorded.{cut_recorded}
use Rattle.slot_disk.proofs.memory.MemDisk.shorten.Goals as goal

pub invariant_of-self : goal.invariant_of-self
invariant_of-self c =
    let file = c.args.self.now in
    let after = cut_recorded file.first.items file.log.items file.steps.items _ c.args.len c.add_step.ensures.items file.kept in
    record {
      stands = c.truncate.ensures.items ∙ ap (λ (l : List ℕ). take c.args.len l) file.stands ∙ sym after.seen;
      kept = after.within;
      bytes_fit = search rules;
      log_fits = search rules;
      steps_fit = search rules;
    }
