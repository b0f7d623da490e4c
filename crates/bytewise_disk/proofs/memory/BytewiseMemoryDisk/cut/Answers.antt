use Rattle.std.proofs.Common.{ap}
use Rattle.slot_disk.specs.MemDisks.{history, fate_next}
use Rattle.slot_disk.specs.Steps.{CutTo}
use Rattle.bytewise_disk.proofs.OneMore.{called_or_not, elapses, cut_leaves}
use Rattle.bytewise_disk.proofs.memory.BytewiseMemoryDisk.cut.Goals as goal

pub returns-clause-crash : goal.returns-clause-crash
returns-clause-crash c d left =
    let old = c.args.self.now.disk in
    let new = c.cut.new.self in
    let e = c.cut.ensures in
    cut_leaves old.first.items new.first.items (history old) (history new) c.args.len (ap (λ v. v.items) e.base.first)
    (called_or_not (history old) (history new) (CutTo c.args.len) (fate_next old) old.room old.steps.items e.undone e.no_room e.done) d left

pub returns-clause-time : goal.returns-clause-time
returns-clause-time c =
    let old = c.args.self.now.disk in
    let new = c.cut.new.self in
    let e = c.cut.ensures in
    elapses old.first.items new.first.items (history old) (history new) (CutTo c.args.len) (ap (λ v. v.items) e.base.first)
    (called_or_not (history old) (history new) (CutTo c.args.len) (fate_next old) old.room old.steps.items e.undone e.no_room e.done)
