use Rattle.std.proofs.Common.{◌≡◌, Some, rules, refl}
use Rattle.slot_disk.specs.Outcomes.{seen_is_left}
use Rattle.slot_disk.specs.Steps.{deeds, Synced}
use Rattle.slot_disk.proofs.Moments.{elapses, sync_leaves}
use Rattle.slot_disk.proofs.memory.MemDiskDisk.sync.Goals as goal
use Rattle.ens_base.proofs.Tests.{on_err}

pub returns-clause-time : goal.returns-clause-time
returns-clause-time c =
    let old = c.args.self.now in
    let new = c.answer.new.self in
    elapses old.first.items new.first.items (deeds old.log.items old.steps.items) (deeds new.log.items new.steps.items) Synced (search rules) (search rules)

pub returns-clause-crash : goal.returns-clause-crash
returns-clause-crash c =
    let old = c.args.self.now in
    let new = c.answer.new.self in
    sync_leaves old.first.items new.first.items (deeds old.log.items old.steps.items) (deeds new.log.items new.steps.items) (search rules) (search rules)

pub returns-then-eq-clause-failed : goal.returns-then-eq-clause-failed
returns-then-eq-clause-failed c =
    let disk = c.args.self.now in
    let is : Some c.fault.new.self.file.items ≡ Some disk.file.items = search rules in
    (disk.file.items, is, seen_is_left disk.first.items disk.file.items disk.file.items (deeds disk.log.items disk.steps.items) disk.stands refl)

pub returns-clause-failed : goal.returns-clause-failed
returns-clause-failed c =
    let disk = c.args.self.now in
    let is : Some c.answer.new.self.file.items ≡ Some disk.file.items = search rules in
    on_err c.answer.result _ (disk.file.items, is, seen_is_left disk.first.items disk.file.items disk.file.items (deeds disk.log.items disk.steps.items) disk.stands refl)
