use Rattle.std.proofs.Common.{Some, ap, refl, sym}
use Rattle.slot_disk.specs.MemDisks.{history, fate_next}
use Rattle.slot_disk.specs.Steps.{Synced}
use Rattle.bytewise_disk.proofs.OneMore.{called_or_not, elapses, sync_leaves, sync_seen}
use Rattle.bytewise_disk.specs.ImageLaws.{seen_is_left}
use Rattle.ens_base.proofs.Tests.{on_err}
use Rattle.bytewise_disk.proofs.memory.BytewiseMemoryDisk.sync.Goals as goal

pub returns-clause-crash : goal.returns-clause-crash
returns-clause-crash c d left =
    let old = c.args.self.now.disk in
    let new = c.sync.new.self in
    let e = c.sync.ensures in
    sync_leaves old.first.items new.first.items (history old) (history new) (ap (λ v. v.items) e.base.first)
    (called_or_not (history old) (history new) Synced (fate_next old) old.room old.steps.items e.undone e.no_room e.done) d left

pub returns-clause-time : goal.returns-clause-time
returns-clause-time c =
    let old = c.args.self.now.disk in
    let new = c.sync.new.self in
    let e = c.sync.ensures in
    elapses old.first.items new.first.items (history old) (history new) Synced (ap (λ v. v.items) e.base.first)
    (called_or_not (history old) (history new) Synced (fate_next old) old.room old.steps.items e.undone e.no_room e.done)

pub returns-clause-failed : goal.returns-clause-failed
returns-clause-failed c =
    let old = c.args.self.now.disk in
    let new = c.sync.new.self in
    let e = c.sync.ensures in
    let same = sync_seen old.first.items new.first.items old.file.items new.file.items (history old) (history new) (ap (λ v. v.items) e.base.first) old.stands new.stands
    (called_or_not (history old) (history new) Synced (fate_next old) old.room old.steps.items e.undone e.no_room e.done) in
    on_err c.sync.result _ (new.file.items, refl, seen_is_left old.first.items old.file.items new.file.items (history old) old.stands (ap Some (sym same)))
