use Rattle.std.proofs.Common.{ap}
use Rattle.slot_disk.specs.MemDisks.{history, fate_next}
use Rattle.slot_disk.specs.Steps.{Wrote}
use Rattle.bytewise_disk.proofs.OneMore.{wrote_or_not, elapses, write_leaves}
use Rattle.bytewise_disk.proofs.memory.BytewiseMemoryDisk.write_at.Goals as goal

pub returns-clause-crash : goal.returns-clause-crash
returns-clause-crash c d left =
    let old = c.args.self.now.disk in
    let new = c.write_at.new.self in
    let e = c.write_at.ensures in
    let more = wrote_or_not (history old) (history new) c.args.at c.args.bytes.now (fate_next old) old.room old.steps.items old.log.items e.undone e.no_room e.done in
    let out = write_leaves old.first.items new.first.items (history old) (history new) c.args.at c.args.bytes.now (ap (λ v. v.items) e.base.first) more d left in
    (out.0, out.1, out.2)

pub returns-clause-time : goal.returns-clause-time
returns-clause-time c =
    let old = c.args.self.now.disk in
    let new = c.write_at.new.self in
    let e = c.write_at.ensures in
    elapses old.first.items new.first.items (history old) (history new) (Wrote c.args.at c.args.bytes.now) (ap (λ v. v.items) e.base.first)
    (wrote_or_not (history old) (history new) c.args.at c.args.bytes.now (fate_next old) old.room old.steps.items old.log.items e.undone e.no_room e.done)
