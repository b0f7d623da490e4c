use Rattle.std.proofs.Common.{◌≡◌, ℕ, List, length, rules, refl, sym, subst}
use Rattle.slot_disk.specs.Crash.{written, Torn}
use Rattle.slot_disk.specs.Outcomes.{torn_whole}
use Rattle.slot_disk.specs.Steps.{deeds, Wrote}
use Rattle.slot_disk.proofs.Moments.{elapses}
use Rattle.slot_disk.proofs.memory.MemDiskDisk.write_at.Goals as goal
use Rattle.ens_base.proofs.Tests.{on_err}

pub returns-clause-time : goal.returns-clause-time
returns-clause-time c =
    let old = c.args.self.now in
    let new = c.answer.new.self in
    elapses old.first.items new.first.items (deeds old.log.items old.steps.items) (deeds new.log.items new.steps.items) (Wrote c.args.at c.args.bytes.now) (search rules) (search rules)

pub returns-clause-failed : goal.returns-clause-failed
returns-clause-failed c =
    let file = c.args.self.now.file.items in
    let is : c.answer.new.self.file.items ≡ written file c.args.at c.args.bytes.now = search rules in
    on_err c.answer.result _ (c.answer.new.self.file.items, refl, subst (λ (l : List ℕ). Torn c.args.at (length c.args.bytes.now) file l) (sym is) (torn_whole file c.args.at c.args.bytes.now))
