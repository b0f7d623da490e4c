-- A job that nothing ends early runs to its end.
use Rattle.std.specs.Prelude.{IsSomeAnd}
use Rattle.std.proofs.Common.{◌≡◌, ◌∙◌, ℕ, Bool, true, false, List, Option, None, Some, Ok, refl, inl, inr, sym, subst, arith}
use Rattle.backup_job.proofs.Completing.{runs_out as check_runs_out}
use Rattle.backup_job.proofs.Outlasting.{backup_runs_out, restore_runs_out}
use Rattle.cluster.specs.Ends.{EndsOverBook, RunEnds, Stopped, Unread, recorded_schedule}
use Rattle.scripts.specs.Scripts.{script_of}
use Rattle.scripts.specs.declared.line.ScriptLine.{ScriptLine}
use Rattle.cluster.specs.Recordings.{IsPart, Recording}
use Rattle.ens_base.specs.Causes.{Rose}
use Rattle.ens_base.specs.declared.peer_words.ClusterWords.{ClusterWords}
use Rattle.ens_base.specs.declared.peer_words.PeerWords.{PeerWords}
use Rattle.ens_base.specs.declared.status.Status.{Status}
use Rattle.command_line.specs.Forms.{AskFor}
use Rattle.root.proofs.Completing.{runs_out as root_runs_out}
use Rattle.command_line.specs.declared.job.Job.{Job}
use Rattle.command_line.specs.declared.job.Job.TheVariants.{Replay, Peer, Cluster, Audit, Backup, Check, Restore, Root, Generate}
use Rattle.world_spec.specs.Held.{Account}
use Rattle.peer_server.proofs.Room.{disk_failed}
use Rattle.peer_server.specs.Serving.{Ended, Failed, Printed}
use Rattle.peer_server.specs.declared.disks.Disks.{Disks}
use Rattle.audit.proofs.Printing.{runs_out as report_runs_out}
use Rattle.root.proofs.ReplayJob.{runs_out}
use Rattle.root.specs.ReplayJob.{PrintsWith, RanOut, nothing_hashed, StaysWithin}
use Rattle.schedule_text.specs.Spelling.{schedule_text}
use Rattle.ensemble.proofs.Endings.{asked_one}
use Rattle.ensemble.specs.Peers.{AreSound, CanServe, HasBackedUp, HasRecorded, HasRestored, HasServed, OnOutside}
use Rattle.schedule_generator.specs.Generated.{generate}
use Rattle.ensemble.specs.Top.{Does, IsRecordable, IsUnhindered, PrintsSchedule, PrintsSummary}

-- ---- generated schedules, and their summaries

schedule_out : (number calls : ℕ) (status : Status) (text : List ℕ) → PrintsSchedule number calls status text → RanOut status
schedule_out number calls Status.Done text prints = inl refl
schedule_out number calls Status.Memory text prints = inr refl
schedule_out number calls status text prints = absurd prints

summary_out : (number calls : ℕ) (status : Status) (text : List ℕ) → StaysWithin (generate number calls) → PrintsSummary number calls status text → RanOut status
summary_out number calls Status.Done text free prints = inl refl
summary_out number calls Status.Memory text free prints = inr refl
summary_out number calls Status.Limit text free prints = absurd (omega (arith, free, prints.0))
summary_out number calls status text free prints = absurd prints

-- a text that was printed in full has the status of the job
module _ (old new : Option (List ℕ)) (before now : ℕ) (result : Status) (quiet : Rose before now → ⊥) where
  same_status : (status : Status) (text : List ℕ) → Printed old new before now status text result → result ≡ status
  same_status status text (inl printed) = printed.0
  same_status status text (inr failed) = absurd (quiet failed.2)

  ran_as : (status : Status) (text : List ℕ) → Printed old new before now status text result → RanOut status → RanOut result
  ran_as status text printed ran = subst RanOut (sym (same_status status text printed)) ran

  module _ {D L T : Type 0} (seen : D → Option (List ℕ)) (may_leave : D → List ℕ → Type 0) (moment : D → ℕ) (left_since : D → ℕ → List ℕ → Type 0) (faults : D → ℕ)
      (sent : L → Option (List (ℕ × List ℕ))) (given : L → Option (List (Option (List ℕ)))) (link_faults : L → ℕ) (coming : T → Option (ℕ → Bool))
      (disks disks_after : Disks D) (link link_after : L) (ticker ticker_after : T) where
    -- ---- a peer

    abbrev Falls : PeerWords → Status → Type 0
    Falls w status = Failed seen may_leave moment left_since faults sent given link_faults coming w status disks disks_after link link_after ticker ticker_after

    link_rose : (w : PeerWords) → Falls w Status.LinkFault → Rose (link_faults link) (link_faults link_after)
    link_rose w (inl (turns, place, interrupted)) = interrupted.cause
    link_rose w (inr (inl unopened, same_link, same_ticker)) = absurd unopened.cause
    link_rose w (inr (inr unstarted, same_link, same_ticker)) = absurd unstarted.cause

    served_out : (w : PeerWords) (status : Status) (text : List ℕ) → Ended seen may_leave moment left_since faults sent given link_faults coming w disks disks_after link link_after ticker ticker_after status text
        → CanServe seen faults link_faults disks disks_after link link_after w → RanOut status
    served_out w Status.Done text ended can = inl refl
    served_out w Status.Memory text ended can = inr refl
    served_out w Status.StoreFault text ended can = absurd (can.0 (disk_failed seen may_leave moment left_since faults sent given link_faults coming w disks disks_after link link_after ticker ticker_after can.1 ended.0))
    served_out w Status.LinkFault text ended can = absurd (can.2 (link_rose w ended.0))
    served_out w status text ended can = absurd ended

    -- ---- a cluster

    module _ (w : ClusterWords) (bytes : List ℕ) (free : IsRecordable w bytes) (links : Rose (link_faults link) (link_faults link_after) → ⊥) where
      one_script : (script : List ScriptLine) → script_of w.peers bytes ≡ Ok script → script ≡ free.0
      one_script script is = cc (sym is ∙ free.1)

      unread_out : (status : Status) (text : List ℕ) → Unread w (Some bytes) link link_after status text → (status ≡ Status.ReadFault → ⊥) → RanOut status
      unread_out Status.Memory text unread calm = inr refl
      unread_out Status.ReadFault text unread calm = absurd (calm refl)
      unread_out Status.Schedule text ((line, cause, bad, reported), same_link) calm = absurd (cc (sym bad ∙ free.1))
      unread_out Status.Limit text (many, reported, same_link) calm = absurd (cc (sym many ∙ free.1))
      unread_out status text unread calm = absurd unread

      stops_free : (script : List ScriptLine) (r : Recording) → script ≡ free.0 → Stopped sent given nothing_hashed w script r link link_after → (status : Status) (text : List ℕ) (now : Account)
          → PrintsWith nothing_hashed now (Some (schedule_text (recorded_schedule w r))) status text → (status ≡ Status.ReadFault → ⊥) → RanOut status
      stops_free script r is stop status text now prints calm =
          runs_out (Some (schedule_text (recorded_schedule w r))) status text (free.2 stop.part stop.looks r (subst (IsPart stop.part) is stop.is_part) stop.follows).1 (now, prints) calm

      run_out : (now : Account) (script : List ScriptLine) → script ≡ free.0 → (status : Status) (text : List ℕ) → RunEnds sent given link_faults nothing_hashed now w script link link_after status text → RanOut status
      run_out now script is Status.Done text ends = inl refl
      run_out now script is Status.Memory text ends = inr refl
      run_out now script is Status.LinkFault text ends = absurd (links ends.1)
      run_out now script is Status.Clash text ends = stops_free script ends.0 is ends.1 Status.Clash text now ends.2.1 (λ e. cc e)
      run_out now script is Status.Limit text (r, stop, inl past) = absurd ((free.2 stop.part stop.looks r (subst (IsPart stop.part) is stop.is_part) stop.follows).0 past.0)
      run_out now script is Status.Limit text (r, stop, inr replays) = stops_free script r is stop Status.Limit text now replays.1 (λ e. cc e)
      run_out now script is status text ends = absurd ends

      recorded_out : (status : Status) (text : List ℕ) → EndsOverBook sent given link_faults w (Some bytes) link link_after status text → (status ≡ Status.ReadFault → ⊥) → RanOut status
      recorded_out status text (now, inl unread) calm = unread_out status text unread calm
      recorded_out status text (now, inr (script, sound, is, ends)) calm = run_out now script (one_script script is) status text ends

    recorded_by : (w : ClusterWords) (source : Option (List ℕ)) (status : Status) (text : List ℕ) → IsSomeAnd source (IsRecordable w) → (Rose (link_faults link) (link_faults link_after) → ⊥)
        → EndsOverBook sent given link_faults w source link link_after status text → (status ≡ Status.ReadFault → ⊥) → RanOut status
    recorded_by w None status text free links ends calm = absurd free
    recorded_by w (Some bytes) status text free links ends calm = recorded_out w bytes free links status text ends calm

    -- ---- any job

    abbrev Sound : Job → Type 0
    Sound job = AreSound seen faults link_faults disks disks_after link link_after job

    -- what became of the link, the disks and the ticker, for each job
    abbrev Linked : Option (List ℕ) → Type 0 → Job → Type 0
    Linked source untouched job =
        OnOutside job (HasServed seen may_leave moment left_since faults sent given link_faults coming disks disks_after link link_after ticker ticker_after old new before now result)
        (HasRecorded seen may_leave moment left_since faults sent given link_faults coming disks disks_after link link_after ticker ticker_after source old new before now result)
        (HasBackedUp seen faults disks disks_after link link_after ticker ticker_after old new before now result) (HasRestored seen faults disks disks_after link link_after ticker ticker_after source old new before now result) untouched

    unhindered : (source : Option (List ℕ)) (untouched : Type 0) (job : Job) (text : List ℕ) → IsUnhindered job source → Sound job → Linked source untouched job → Does job source result text → (result ≡ Status.ReadFault → ⊥) → RanOut result
    unhindered source untouched Replay text free sound linked does calm = runs_out source result text free does calm
    unhindered source untouched Audit text free sound linked does calm = report_runs_out source result text free does calm
    unhindered source untouched Check text free sound linked does calm = check_runs_out source result text free does calm
    unhindered source untouched Root text free sound linked does calm = root_runs_out source result text free does calm
    unhindered source untouched (Peer w) text free sound (status, printed, ended, out) does calm = ran_as status printed out (served_out w status printed ended sound)
    unhindered source untouched (Cluster w) text free sound (same_disks, same_ticker, (status, printed, ends, out)) does calm =
        ran_as status printed out (recorded_by w source status printed free sound ends (λ fault. calm (same_status status printed out ∙ fault)))
    unhindered source untouched Backup text free sound (facts, same_link, same_ticker, (status, printed, changed, out)) does calm =
        let disks_hold = sound changed.0 changed.1 changed.2 changed.3 in
        ran_as status printed out (backup_runs_out seen faults changed.0 changed.1 status printed disks_hold.1 disks_hold.0 changed.4)
    unhindered source untouched Restore text free sound (facts, same_link, same_ticker, (status, printed, changed, out)) does calm =
        ran_as status printed out (restore_runs_out seen faults source changed.0 changed.1 status printed free (sound changed.0 changed.1 changed.2 changed.3) changed.4 (λ fault. calm (same_status status printed out ∙ fault)))
    unhindered source untouched (Generate number calls false) text free sound linked does calm = schedule_out number calls result text does
    unhindered source untouched (Generate number calls true) text free sound linked does calm = summary_out number calls result text free does

    pub job_completes : (words : List (List ℕ)) (source : Option (List ℕ)) (untouched : Type 0) (text : List ℕ) (ran job : Job) → AskFor words ran → AskFor words job → IsUnhindered job source → Sound job → Linked source untouched ran → Does ran source result text
        → (result ≡ Status.ReadFault → ⊥) → RanOut result
    job_completes words source untouched text ran job asks also free sound linked does calm =
        let same : ran ≡ job = asked_one words ran job asks also in
        unhindered source untouched job text free sound (subst (Linked source untouched) same linked) (subst (λ (j : Job). Does j source result text) same does) calm
