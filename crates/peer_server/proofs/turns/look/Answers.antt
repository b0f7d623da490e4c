use Rattle.std.proofs.Common.{refl}
use Rattle.std.proofs.lemmas.Result.{err_from_is_err_and}
use Rattle.peer_server.proofs.Lining.{none_sent}
use Rattle.peer_server.proofs.Making.{look_failed, look_fell, look_ignored, look_nothing, look_took, taken_counted}
use Rattle.peer_server.proofs.Stepping.{step_fell, took_step}
use Rattle.peer_server.specs.DiskPeers.{disks_do, disks_refuse}
use Rattle.peer_server.specs.Faults.{status_of}
use Rattle.peer_server.specs.Lines.{frames_waiting, looked, posted}
use Rattle.peer_server.specs.Turning.{point}
use Rattle.peer_server.proofs.turns.look.Goals as goal

pub returns-in_err-find-clause-broke : goal.returns-in_err-find-clause-broke
returns-in_err-find-clause-broke g c =
    let p = err_from_is_err_and c.from_residual.result c.from_residual.ensures.1 in
    rw (p.1, p.2)
    (look_failed (disks_do g.D.Disk.seen g.D.Disk.fault_count) (disks_refuse g.D.Disk.seen g.D.Disk.fault_count) (posted g.L.Link.sent c.args.words.now.me) (looked g.L.Link.given) c.args.words.now _ (point c.args.server.now c.args.link.now) (point c.args.server.now c.find.new.link) c.in_err-find.ensures.broke refl refl
    (none_sent (g.L.Link.sent c.args.link.now) (g.L.Link.sent c.find.new.link) (frames_waiting c.args.words.now.me c.args.server.now.unsent.items) c.find.ensures.sent))

pub returns-in_err-step-in-Taken-clause-broke : goal.returns-in_err-step-in-Taken-clause-broke
returns-in_err-step-in-Taken-clause-broke g c =
    let p = err_from_is_err_and c.from_residual-in_err-step-in-Taken.result c.from_residual-in_err-step-in-Taken.ensures.1 in
    rw (p.1, p.2)
    (look_fell (disks_do g.D.Disk.seen g.D.Disk.fault_count) (disks_refuse g.D.Disk.seen g.D.Disk.fault_count) (posted g.L.Link.sent c.args.words.now.me) (looked g.L.Link.given) c.args.words.now (status_of c.in_err-step-in-Taken.field-0.0) c.in-Taken.event (point c.args.server.now c.args.link.now) (point c.args.server.now c.find.new.link) (point c.step.new.server c.find.new.link) refl refl (rw c.in-Taken.is at c.in_ok-find.ensures.found)
    (none_sent (g.L.Link.sent c.args.link.now) (g.L.Link.sent c.find.new.link) (frames_waiting c.args.words.now.me c.args.server.now.unsent.items) c.find.ensures.sent)
    (step_fell g.D.Disk.seen g.D.Disk.fault_count g.L.Link.sent g.L.Link.given c.args.words.now.me c.in-Taken.event c.args.server.now c.step.new.server c.find.new.link c.in_err-step-in-Taken.field-0.0 c.in_err-step-in-Taken.ensures.no_link c.in_err-step-in-Taken.ensures.broke))

pub returns-in-Nothing-clause-made : goal.returns-in-Nothing-clause-made
returns-in-Nothing-clause-made g c =
    let found = rw c.in-Nothing.is at c.in_ok-find.ensures.found in
    look_nothing (disks_do g.D.Disk.seen g.D.Disk.fault_count) (disks_refuse g.D.Disk.seen g.D.Disk.fault_count) (posted g.L.Link.sent c.args.words.now.me) (looked g.L.Link.given) c.args.words.now (point c.args.server.now c.args.link.now) (point c.args.server.now c.find.new.link) c.args.counts.now found.0 found.2 refl refl found.1
    (none_sent (g.L.Link.sent c.args.link.now) (g.L.Link.sent c.find.new.link) (frames_waiting c.args.words.now.me c.args.server.now.unsent.items) c.find.ensures.sent)

pub returns-in-Ignored-clause-made : goal.returns-in-Ignored-clause-made
returns-in-Ignored-clause-made g c =
    let found = rw c.in-Ignored.is at c.in_ok-find.ensures.found in
    look_ignored (disks_do g.D.Disk.seen g.D.Disk.fault_count) (disks_refuse g.D.Disk.seen g.D.Disk.fault_count) (posted g.L.Link.sent c.args.words.now.me) (looked g.L.Link.given) c.args.words.now (point c.args.server.now c.args.link.now) (point c.args.server.now c.find.new.link) c.args.counts.now _ found.0 found.2 refl refl found.1
    (none_sent (g.L.Link.sent c.args.link.now) (g.L.Link.sent c.find.new.link) (frames_waiting c.args.words.now.me c.args.server.now.unsent.items) c.find.ensures.sent) refl refl

pub returns-in_ok-step-in-Taken-clause-made : goal.returns-in_ok-step-in-Taken-clause-made
returns-in_ok-step-in-Taken-clause-made g c =
    let found = rw c.in-Taken.is at c.in_ok-find.ensures.found in
    look_took (disks_do g.D.Disk.seen g.D.Disk.fault_count) (disks_refuse g.D.Disk.seen g.D.Disk.fault_count) (posted g.L.Link.sent c.args.words.now.me) (looked g.L.Link.given) c.args.words.now c.in-Taken.event (point c.args.server.now c.args.link.now) (point c.args.server.now c.find.new.link) (point c.step.new.server c.find.new.link) c.args.counts.now _ refl refl found
    (none_sent (g.L.Link.sent c.args.link.now) (g.L.Link.sent c.find.new.link) (frames_waiting c.args.words.now.me c.args.server.now.unsent.items) c.find.ensures.sent) (taken_counted c.args.words.now found.0 c.in-Taken.event c.args.counts.now _ found.2.0 refl refl)
    (took_step g.D.Disk.seen g.D.Disk.fault_count g.L.Link.sent g.L.Link.given c.args.words.now.me c.in-Taken.event c.args.server.now c.step.new.server c.find.new.link c.in_ok-step-in-Taken.ensures.stepped)
