use Rattle.std.proofs.Common.{refl, inl, inr}
use Rattle.ens_base.specs.declared.status.Status.TheVariants as Status
use Rattle.command_line.specs.declared.job.Job.TheVariants as jobs
use Rattle.ensemble.proofs.Completing.{job_completes}
use Rattle.ensemble.proofs.Endings.{asked_did_read, asked_reads, did_read_at, job_ends, memory_did_read, refused_words, usage_did_read}
use Rattle.ensemble.proofs.Serving.{finished, on_backup, on_cluster, on_none, on_peer, on_restore}
use Rattle.ensemble.proofs.top.ensemble_main.Goals as goal

pub returns-in-Ok-clause-printed : goal.returns-in-Ok-clause-printed
returns-in-Ok-clause-printed g c = λ wrote.
    let p = c.run_job.ensures.printed wrote in
    (p.0, job_ends _ _ c.in-Ok.job _ p.0 c.in-Ok.ensures p.1, p.2)

pub returns-in-Ok-clause-prefix : goal.returns-in-Ok-clause-prefix
returns-in-Ok-clause-prefix g c = λ fault.
    let f = c.run_job.ensures.prefix fault in
    (f.0, f.1, job_ends _ _ c.in-Ok.job f.0 f.1 c.in-Ok.ensures f.2, λ job asks. asked_did_read _ c.in-Ok.job job _ _ _ _ _ c.in-Ok.ensures asks f.3, f.4)

pub returns-in-Err-Usage-clause-prefix : goal.returns-in-Err-Usage-clause-prefix
returns-in-Err-Usage-clause-prefix g c = λ fault. (Status.Usage, _, (refused_words _ (rw c.in-Err-Usage.field-0-is at c.in-Err-Usage.ensures), refl), λ job asks. usage_did_read job _ _ _, c.finish.ensures.prefix fault)

pub returns-in-Err-Memory-clause-prefix : goal.returns-in-Err-Memory-clause-prefix
returns-in-Err-Memory-clause-prefix g c = λ fault. (Status.Memory, _, refl, λ job asks. memory_did_read job _ _ _, c.finish-in-Err-Memory.ensures.prefix fault)

pub returns-in-Ok-clause-completes : goal.returns-in-Ok-clause-completes
returns-in-Ok-clause-completes g c = λ job asks free sound calm quiet.
    let p = c.run_job.ensures.printed (λ fault. quiet (c.run_job.ensures.write fault)) in
    job_completes (g.O.Sink.written c.args.output.now) (g.O.Sink.written c.run_job.new.output) (g.O.Sink.fault_count c.args.output.now) (g.O.Sink.fault_count c.run_job.new.output) c.run_job.result quiet
    g.D.Disk.seen g.D.Disk.may_leave g.D.Disk.moment g.D.Disk.left_since g.D.Disk.fault_count g.L.Link.sent g.L.Link.given g.L.Link.fault_count g.T.Ticker.coming c.args.disks.now c.run_job.new.disks c.args.link.now c.run_job.new.link c.args.ticker.now c.run_job.new.ticker
    _ (g.S.Source.left c.args.input.now) _ p.0 c.in-Ok.job job c.in-Ok.ensures asks free sound c.run_job.ensures.linked p.1 (λ fault. calm (c.run_job.ensures.read fault))

pub returns-in-Ok-clause-input : goal.returns-in-Ok-clause-input
returns-in-Ok-clause-input g c = λ wrote job asks. asked_did_read _ c.in-Ok.job job _ _ _ _ _ c.in-Ok.ensures asks (c.run_job.ensures.input wrote)

pub returns-in-Err-Usage-clause-input : goal.returns-in-Err-Usage-clause-input
returns-in-Err-Usage-clause-input g c = λ wrote job asks. did_read_at job _ _ _ _ _ _ (c.finish.ensures.written wrote).0 (usage_did_read job _ _ _)

pub returns-in-Err-Memory-clause-input : goal.returns-in-Err-Memory-clause-input
returns-in-Err-Memory-clause-input g c = λ wrote job asks. did_read_at job _ _ _ _ _ _ (c.finish-in-Err-Memory.ensures.written wrote).0 (memory_did_read job _ _ _)

pub returns-in-Ok-clause-untouched : goal.returns-in-Ok-clause-untouched
returns-in-Ok-clause-untouched g c = λ none. c.run_job.ensures.untouched (λ reads. none (asked_reads _ c.in-Ok.job c.in-Ok.ensures reads))

pub returns-in-Ok-clause-served : goal.returns-in-Ok-clause-served
returns-in-Ok-clause-served g c = λ w asks. inl (on_peer _ c.in-Ok.job w _ _ _ _ _ c.in-Ok.ensures asks c.run_job.ensures.linked)

pub returns-in-Ok-clause-recorded : goal.returns-in-Ok-clause-recorded
returns-in-Ok-clause-recorded g c = λ w asks. inl (on_cluster _ c.in-Ok.job w _ _ _ _ _ c.in-Ok.ensures asks c.run_job.ensures.linked)

pub returns-in-Ok-clause-alone : goal.returns-in-Ok-clause-alone
returns-in-Ok-clause-alone g c = λ none. on_none _ c.in-Ok.job _ _ _ _ _ c.in-Ok.ensures none c.run_job.ensures.linked

pub returns-in-Err-Usage-clause-served : goal.returns-in-Err-Usage-clause-served
returns-in-Err-Usage-clause-served g c = λ w asks. absurd ((rw c.in-Err-Usage.field-0-is at c.in-Err-Usage.ensures) (jobs.Peer w) asks)

pub returns-in-Err-Usage-clause-recorded : goal.returns-in-Err-Usage-clause-recorded
returns-in-Err-Usage-clause-recorded g c = λ w asks. absurd ((rw c.in-Err-Usage.field-0-is at c.in-Err-Usage.ensures) (jobs.Cluster w) asks)

pub returns-in-Err-Memory-clause-recorded : goal.returns-in-Err-Memory-clause-recorded
returns-in-Err-Memory-clause-recorded g c = λ w asks. inr ((refl, refl, refl), finished _ _ _ _ _ _ _ c.finish-in-Err-Memory.ensures.written c.finish-in-Err-Memory.ensures.prefix c.finish-in-Err-Memory.ensures.failed)

pub returns-in-Err-Memory-clause-served : goal.returns-in-Err-Memory-clause-served
returns-in-Err-Memory-clause-served g c = λ w asks. inr ((refl, refl, refl), finished _ _ _ _ _ _ _ c.finish-in-Err-Memory.ensures.written c.finish-in-Err-Memory.ensures.prefix c.finish-in-Err-Memory.ensures.failed)

pub returns-in-Ok-clause-backed : goal.returns-in-Ok-clause-backed
returns-in-Ok-clause-backed g c = λ asks. inl (on_backup _ c.in-Ok.job _ _ _ _ _ c.in-Ok.ensures asks c.run_job.ensures.linked)

pub returns-in-Err-Usage-clause-backed : goal.returns-in-Err-Usage-clause-backed
returns-in-Err-Usage-clause-backed g c = λ asks. absurd ((rw c.in-Err-Usage.field-0-is at c.in-Err-Usage.ensures) jobs.Backup asks)

pub returns-in-Err-Memory-clause-backed : goal.returns-in-Err-Memory-clause-backed
returns-in-Err-Memory-clause-backed g c = λ asks. inr ((refl, refl, refl), finished _ _ _ _ _ _ _ c.finish-in-Err-Memory.ensures.written c.finish-in-Err-Memory.ensures.prefix c.finish-in-Err-Memory.ensures.failed)

pub returns-in-Ok-clause-restored : goal.returns-in-Ok-clause-restored
returns-in-Ok-clause-restored g c = λ asks. inl (on_restore _ c.in-Ok.job _ _ _ _ _ c.in-Ok.ensures asks c.run_job.ensures.linked)

pub returns-in-Err-Usage-clause-restored : goal.returns-in-Err-Usage-clause-restored
returns-in-Err-Usage-clause-restored g c = λ asks. absurd ((rw c.in-Err-Usage.field-0-is at c.in-Err-Usage.ensures) jobs.Restore asks)

pub returns-in-Err-Memory-clause-restored : goal.returns-in-Err-Memory-clause-restored
returns-in-Err-Memory-clause-restored g c = λ asks. inr ((refl, refl, refl), finished _ _ _ _ _ _ _ c.finish-in-Err-Memory.ensures.written c.finish-in-Err-Memory.ensures.prefix c.finish-in-Err-Memory.ensures.failed)
