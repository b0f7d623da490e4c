use Rattle.cluster.specs.Ends.{EndsOverBook}
use Rattle.std.proofs.Common.{ℕ, List, refl, rules, sym, subst}
use Rattle.backup_job.specs.Backed.{Backed}
use Rattle.backup_job.specs.Disks.{Between}
use Rattle.backup_job.specs.Restored.{Restored}
use Rattle.ens_base.specs.declared.status.Status.{Status}
use Rattle.command_line.specs.declared.job.Job.{Job}
use Rattle.ensemble.specs.Top.{Does, PrintsCounts}
use Rattle.ensemble.proofs.Endings.{did_back_up, did_read_backup, did_read_record, did_read_restore, did_read_root, did_read_schedule}
use Rattle.ensemble.proofs.Changing.{all_there_still, backup_text, both_there, no_read, restore_reads, restore_text}
use Rattle.ensemble.proofs.Recording.{cluster_reads, did_read_script, printed_of, read_rose, unseen, words_valid}
use Rattle.ensemble.proofs.Serving.{ended_prints, prefix_text, peer_did_read, reads_nothing, whole_text}
use Rattle.ensemble.proofs.top.run_job.Given as given
use Rattle.ensemble.proofs.top.run_job.Goals as goal
use Rattle.peer_server.specs.Serving.{Printed}

pub cluster-requires : goal.cluster-requires
cluster-requires g c = (search rules, words_valid c.args.job c.in-Cluster.words c.in-Cluster.is c.requires.job)

pub returns-in-Cluster-clause-printed : goal.returns-in-Cluster-clause-printed
returns-in-Cluster-clause-printed g c = λ wrote.
    let p = c.cluster.ensures.printed wrote in (
      p.0,
      subst (λ (job : Job). Does job (g.S.Source.left c.args.input.now) c.cluster.result p.0) (sym c.in-Cluster.is) (unseen g.L.Link.sent g.L.Link.given g.L.Link.fault_count c.args.link.now c.cluster.new.link c.in-Cluster.words (g.S.Source.left c.args.input.now) c.cluster.result p.0 p.1),
      p.2,
    )

pub returns-in-Cluster-clause-prefix : goal.returns-in-Cluster-clause-prefix
returns-in-Cluster-clause-prefix g c = λ fault.
    let f = c.cluster.ensures.prefix fault in (
      f.0,
      f.1,
      subst (λ (job : Job). Does job (g.S.Source.left c.args.input.now) f.0 f.1) (sym c.in-Cluster.is) (unseen g.L.Link.sent g.L.Link.given g.L.Link.fault_count c.args.link.now c.cluster.new.link c.in-Cluster.words (g.S.Source.left c.args.input.now) f.0 f.1 f.2),
      did_read_script c.args.job c.in-Cluster.words _ _ _ _ _ c.in-Cluster.is f.3,
      f.4,
    )

pub returns-in-Cluster-clause-untouched : goal.returns-in-Cluster-clause-untouched
returns-in-Cluster-clause-untouched g c = λ none. absurd (none (cluster_reads c.args.job c.in-Cluster.words c.in-Cluster.is))

pub returns-in-Cluster-clause-read : goal.returns-in-Cluster-clause-read
returns-in-Cluster-clause-read g c = λ fault. read_rose c.in-Cluster.words _ _ _ _ c.cluster.result fault c.cluster.ensures.input

pub returns-in-Cluster-clause-linked : goal.returns-in-Cluster-clause-linked
returns-in-Cluster-clause-linked g c =
    rw c.in-Cluster.is (
      refl,
      refl,
      printed_of (λ status text. EndsOverBook g.L.Link.sent g.L.Link.given g.L.Link.fault_count c.in-Cluster.words (g.S.Source.left c.args.input.now) c.args.link.now c.cluster.new.link status text) _ _ _ _ c.cluster.result c.cluster.ensures.printed
          (λ fault. let f = c.cluster.ensures.prefix fault in (f.0, f.1, f.2, f.4)) c.cluster.ensures.write,
    )

pub returns-in-Audit-clause-prefix : goal.returns-in-Audit-clause-prefix
returns-in-Audit-clause-prefix g c = λ fault.
    let r = c.print_report.ensures.prefix fault in
    (r.0, r.1, subst (λ (job : Job). Does job (g.S.Source.left c.args.input.now) r.0 r.1) (sym c.in-Audit.is) r.2, did_read_record c.args.job _ _ _ _ _ c.in-Audit.is (record { taken = c.print_report.ensures.taken; end = r.3; fault = r.4; cut = r.5 }), r.6)

pub returns-in-Audit-clause-untouched : goal.returns-in-Audit-clause-untouched
returns-in-Audit-clause-untouched g c = λ none. absurd (none (rw c.in-Audit.is tt))

pub returns-in-Check-clause-prefix : goal.returns-in-Check-clause-prefix
returns-in-Check-clause-prefix g c = λ fault.
    let r = c.print_check.ensures.prefix fault in
    (r.0, r.1, subst (λ (job : Job). Does job (g.S.Source.left c.args.input.now) r.0 r.1) (sym c.in-Check.is) r.2, did_read_backup c.args.job _ _ _ _ _ c.in-Check.is r.3, r.4)

pub returns-in-Check-clause-untouched : goal.returns-in-Check-clause-untouched
returns-in-Check-clause-untouched g c = λ none. absurd (none (rw c.in-Check.is tt))

pub returns-in-Check-clause-input : goal.returns-in-Check-clause-input
returns-in-Check-clause-input g c = λ wrote. did_read_backup c.args.job _ _ _ _ _ c.in-Check.is (c.print_check.ensures.input wrote)

-- ---- a backup

pub print_backup-requires : goal.print_backup-requires
print_backup-requires g c = (search rules, both_there c.args.disks.now c.requires.there)

pub returns-in-Backup-clause-printed : goal.returns-in-Backup-clause-printed
returns-in-Backup-clause-printed g c = λ wrote.
    let p = c.print_backup.ensures.printed wrote in
    (p.0, subst (λ (job : Job). Does job (g.S.Source.left c.args.input.now) c.print_backup.result p.0) (sym c.in-Backup.is) (backup_text g.D.Disk.seen g.D.Disk.fault_count _ _ _ _ c.print_backup.result p.0 p.1), p.2)

pub returns-in-Backup-clause-prefix : goal.returns-in-Backup-clause-prefix
returns-in-Backup-clause-prefix g c = λ fault.
    let f = c.print_backup.ensures.prefix fault in
    (f.0, f.1, subst (λ (job : Job). Does job (g.S.Source.left c.args.input.now) f.0 f.1) (sym c.in-Backup.is) (backup_text g.D.Disk.seen g.D.Disk.fault_count _ _ _ _ f.0 f.1 f.2), did_back_up c.args.job _ _ _ _ _ c.in-Backup.is, f.3)

pub returns-in-Backup-clause-input : goal.returns-in-Backup-clause-input
returns-in-Backup-clause-input g c = λ wrote. did_back_up c.args.job _ _ _ _ _ c.in-Backup.is

pub returns-in-Backup-clause-read : goal.returns-in-Backup-clause-read
returns-in-Backup-clause-read g c = λ fault.
    absurd (no_read c.print_backup.result _ _ (λ wrote. let p = c.print_backup.ensures.printed wrote in (p.0, backup_text g.D.Disk.seen g.D.Disk.fault_count _ _ _ _ c.print_backup.result p.0 p.1, p.2)) fault)

pub returns-in-Backup-clause-linked : goal.returns-in-Backup-clause-linked
returns-in-Backup-clause-linked g c =
    rw c.in-Backup.is (
      refl,
      refl,
      refl,
      printed_of (λ status text. Between c.args.disks.now.nodes c.args.disks.now.objects c.print_backup.new.nodes c.print_backup.new.objects (λ first last. Backed g.D.Disk.seen g.D.Disk.fault_count first last status text)) _ _ _ _ c.print_backup.result c.print_backup.ensures.printed
          c.print_backup.ensures.prefix c.print_backup.ensures.write,
    )

pub returns-in-Backup-clause-there : goal.returns-in-Backup-clause-there
returns-in-Backup-clause-there g c = all_there_still c.args.disks.now _ c.requires.there refl c.print_backup.ensures.there.0 c.print_backup.ensures.there.1

-- ---- a restore

pub restore_disks-requires : goal.restore_disks-requires
restore_disks-requires g c = (search rules, both_there c.args.disks.now c.requires.there)

pub returns-in-Restore-clause-printed : goal.returns-in-Restore-clause-printed
returns-in-Restore-clause-printed g c = λ wrote.
    let p = c.restore_disks.ensures.printed wrote in
    (p.0, subst (λ (job : Job). Does job (g.S.Source.left c.args.input.now) c.restore_disks.result p.0) (sym c.in-Restore.is) (restore_text g.D.Disk.seen g.D.Disk.fault_count _ _ _ _ _ c.restore_disks.result p.0 p.1), p.2)

pub returns-in-Restore-clause-prefix : goal.returns-in-Restore-clause-prefix
returns-in-Restore-clause-prefix g c = λ fault.
    let f = c.restore_disks.ensures.prefix fault in
    (f.0, f.1, subst (λ (job : Job). Does job (g.S.Source.left c.args.input.now) f.0 f.1) (sym c.in-Restore.is) (restore_text g.D.Disk.seen g.D.Disk.fault_count _ _ _ _ _ f.0 f.1 f.2), did_read_restore c.args.job _ _ _ _ _ c.in-Restore.is f.3, f.4)

pub returns-in-Restore-clause-untouched : goal.returns-in-Restore-clause-untouched
returns-in-Restore-clause-untouched g c = λ none. absurd (none (restore_reads c.args.job c.in-Restore.is))

pub returns-in-Restore-clause-input : goal.returns-in-Restore-clause-input
returns-in-Restore-clause-input g c = λ wrote. did_read_restore c.args.job _ _ _ _ _ c.in-Restore.is (c.restore_disks.ensures.input wrote)

pub returns-in-Restore-clause-linked : goal.returns-in-Restore-clause-linked
returns-in-Restore-clause-linked g c =
    rw c.in-Restore.is (
      refl,
      refl,
      refl,
      printed_of (λ status text. Between c.args.disks.now.nodes c.args.disks.now.objects c.restore_disks.new.nodes c.restore_disks.new.objects (λ first last. Restored g.D.Disk.seen g.D.Disk.fault_count (g.S.Source.left c.args.input.now) first last status text)) _ _ _ _ c.restore_disks.result
          c.restore_disks.ensures.printed (λ fault. let f = c.restore_disks.ensures.prefix fault in (f.0, f.1, f.2, f.4)) c.restore_disks.ensures.write,
    )

pub returns-in-Restore-clause-there : goal.returns-in-Restore-clause-there
returns-in-Restore-clause-there g c = all_there_still c.args.disks.now _ c.requires.there refl c.restore_disks.ensures.there.0 c.restore_disks.ensures.there.1

pub returns-in-Root-clause-prefix : goal.returns-in-Root-clause-prefix
returns-in-Root-clause-prefix g c = λ fault. let r = c.root.ensures.prefix fault in (r.0, r.1, subst (λ (job : Job). Does job (g.S.Source.left c.args.input.now) r.0 r.1) (sym c.in-Root.is) r.2, did_read_root c.args.job _ _ _ _ _ c.in-Root.is r.3, r.4)

pub returns-in-Root-clause-untouched : goal.returns-in-Root-clause-untouched
returns-in-Root-clause-untouched g c = λ none. absurd (none (rw c.in-Root.is tt))

pub returns-in-Root-clause-input : goal.returns-in-Root-clause-input
returns-in-Root-clause-input g c = λ wrote. did_read_root c.args.job _ _ _ _ _ c.in-Root.is (c.root.ensures.input wrote)

pub returns-in-Replay-clause-prefix : goal.returns-in-Replay-clause-prefix
returns-in-Replay-clause-prefix g c = λ fault. let r = c.replay.ensures.prefix fault in (r.0, r.1, subst (λ (job : Job). Does job (g.S.Source.left c.args.input.now) r.0 r.1) (sym c.in-Replay.is) r.2, did_read_schedule c.args.job _ _ _ _ _ c.in-Replay.is r.3, r.4)

pub returns-in-Replay-clause-untouched : goal.returns-in-Replay-clause-untouched
returns-in-Replay-clause-untouched g c = λ none. absurd (none (rw c.in-Replay.is tt))

pub returns-in-Cluster-clause-input : goal.returns-in-Cluster-clause-input
returns-in-Cluster-clause-input g c = λ wrote. did_read_script c.args.job c.in-Cluster.words _ _ _ _ _ c.in-Cluster.is (c.cluster.ensures.input wrote)

pub returns-in-Replay-clause-input : goal.returns-in-Replay-clause-input
returns-in-Replay-clause-input g c = λ wrote. did_read_schedule c.args.job _ _ _ _ _ c.in-Replay.is (c.replay.ensures.input wrote)

pub returns-in-Audit-clause-input : goal.returns-in-Audit-clause-input
returns-in-Audit-clause-input g c = λ wrote. did_read_record c.args.job _ _ _ _ _ c.in-Audit.is (record { taken = c.print_report.ensures.taken; end = c.print_report.ensures.end; fault = c.print_report.ensures.read; cut = c.print_report.ensures.cut })

-- the text with which the peer ended, and what was printed of it
counts : (g : given.Over) (c : goal.After-serve g) → (status : Status) × (text : List ℕ) × PrintsCounts c.in-Peer.words status text
    × Printed (g.O.Sink.written c.args.output.now) (g.O.Sink.written c.serve.new.output) (g.O.Sink.fault_count c.args.output.now) (g.O.Sink.fault_count c.serve.new.output) status text c.serve.result
counts g c =
    let e = c.serve.ensures.ended in
    (e.0, e.1, ended_prints g.D.Disk.seen g.D.Disk.may_leave g.D.Disk.moment g.D.Disk.left_since g.D.Disk.fault_count g.L.Link.sent g.L.Link.given g.L.Link.fault_count g.T.Ticker.coming c.in-Peer.words c.args.disks.now c.serve.new.disks c.args.link.now c.serve.new.link c.args.ticker.now c.serve.new.ticker e.0 e.1 e.2, e.3)

pub returns-in-Peer-clause-printed : goal.returns-in-Peer-clause-printed
returns-in-Peer-clause-printed g c = λ no.
    let e = counts g c in
    let p = whole_text c.in-Peer.words (g.O.Sink.written c.args.output.now) (g.O.Sink.written c.serve.new.output) (g.O.Sink.fault_count c.args.output.now) (g.O.Sink.fault_count c.serve.new.output) e.0 e.1 c.serve.result e.2 e.3 no in
    (p.0, subst (λ (job : Job). Does job (g.S.Source.left c.args.input.now) c.serve.result p.0) (sym c.in-Peer.is) p.1, p.2)

pub returns-in-Peer-clause-prefix : goal.returns-in-Peer-clause-prefix
returns-in-Peer-clause-prefix g c = λ fault.
    let e = counts g c in
    let f = prefix_text c.in-Peer.words (g.O.Sink.written c.args.output.now) (g.O.Sink.written c.serve.new.output) (g.O.Sink.fault_count c.args.output.now) (g.O.Sink.fault_count c.serve.new.output) e.0 e.1 c.serve.result e.2 e.3 fault in
    (f.0, f.1, subst (λ (job : Job). Does job (g.S.Source.left c.args.input.now) f.0 f.1) (sym c.in-Peer.is) f.2, peer_did_read c.args.job c.in-Peer.words _ _ _ _ _ c.in-Peer.is, f.3)

pub returns-in-Peer-clause-input : goal.returns-in-Peer-clause-input
returns-in-Peer-clause-input g c = λ wrote. peer_did_read c.args.job c.in-Peer.words _ _ _ _ _ c.in-Peer.is

pub returns-in-Peer-clause-read : goal.returns-in-Peer-clause-read
returns-in-Peer-clause-read g c = λ fault.
    let e = counts g c in
    absurd (reads_nothing c.in-Peer.words (g.O.Sink.written c.args.output.now) (g.O.Sink.written c.serve.new.output) (g.O.Sink.fault_count c.args.output.now) (g.O.Sink.fault_count c.serve.new.output) e.0 e.1 c.serve.result e.2 e.3 fault)

pub returns-in-Peer-clause-write : goal.returns-in-Peer-clause-write
returns-in-Peer-clause-write g c = λ fault.
    let e = counts g c in
    (prefix_text c.in-Peer.words (g.O.Sink.written c.args.output.now) (g.O.Sink.written c.serve.new.output) (g.O.Sink.fault_count c.args.output.now) (g.O.Sink.fault_count c.serve.new.output) e.0 e.1 c.serve.result e.2 e.3 fault).4

pub returns-in-Peer-clause-linked : goal.returns-in-Peer-clause-linked
returns-in-Peer-clause-linked g c = rw c.in-Peer.is c.serve.ensures.ended
