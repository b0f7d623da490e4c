use Rattle.std.proofs.Common.{◌≡◌, ◌∙◌, sym}
use Rattle.slot_disk.specs.Crash.{Torn}
use Rattle.slot_disk.specs.Slots.{start, current}
use Rattle.slot_disk.proofs.Runs.{weaker}
use Rattle.slot_disk.proofs.Ranges.{still, torn_same}
use Rattle.slot_disk.proofs.Saves.{close_done}
use Rattle.slot_disk.proofs.Stages.{closing_current}
use Rattle.slot_disk.proofs.writing.close.Goals as goal

pub returns-clause-done : goal.returns-clause-done
returns-clause-done g c =
    close_done g.D.Disk.seen g.D.Disk.may_leave c.args.disk.now c.args.disk.now c.write_synced.new.disk c.args.slot c.args.is_shut c.write_synced.result (rw c.start.ensures at c.write_synced.ensures.done)

pub returns-clause-seen : goal.returns-clause-seen
returns-clause-seen g c file on free =
    let seen = (rw c.start.ensures at c.write_synced.ensures.seen) file on in
    (seen.0, seen.1, closing_current c.args.slot file seen.0 free.next (sym free.gate ∙ c.if-is_shut.false) seen.2)

pub returns-clause-any_moment : goal.returns-clause-any_moment
returns-clause-any_moment g c file on free =
    weaker g.D.Disk.moment g.D.Disk.left_since c.args.disk.now c.write_synced.new.disk (Torn (start c.args.slot) 1 file) (λ c'. current c' ≡ current file)
    (λ new torn. closing_current c.args.slot file new free.next (sym free.gate ∙ c.if-is_shut.false) torn)
    ((rw c.start.ensures at c.write_synced.ensures.any_moment) file on)

pub returns-then-is_shut-clause-inside : goal.returns-then-is_shut-clause-inside
returns-then-is_shut-clause-inside g c file on =
    still g.D.Disk.seen g.D.Disk.may_leave g.D.Disk.moment g.D.Disk.left_since g.met.D.Disk.only_now c.args.disk.now file (Torn (start c.args.slot) 1 file) on (torn_same (start c.args.slot) 1 file)

pub returns-then-is_shut-clause-inside_seen : goal.returns-then-is_shut-clause-inside_seen
returns-then-is_shut-clause-inside_seen g c file on = (file, on.told, torn_same (start c.args.slot) 1 file)

pub returns-clause-inside : goal.returns-clause-inside
returns-clause-inside g c = rw c.start.ensures at c.write_synced.ensures.any_moment

pub returns-clause-inside_seen : goal.returns-clause-inside_seen
returns-clause-inside_seen g c = rw c.start.ensures at c.write_synced.ensures.seen
