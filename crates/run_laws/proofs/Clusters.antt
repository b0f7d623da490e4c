-- The record of a cluster, replayed and audited.
use Rattle.std.proofs.Common.{◌≡◌, ◌∙◌, ℕ, List, Option, Some, Result, Ok, refl, sym, subst, inl, inr}
use Rattle.cluster.specs.Ends.{PrintsRecord, recorded_schedule}
use Rattle.ens_base.specs.declared.peer_words.ClusterWords.{ClusterWords}
use Rattle.ens_base.specs.declared.status.Status.{Status}
use Rattle.run_laws.proofs.Recording.{replay_recorded}
use Rattle.cluster.proofs.Replay.{one_text}
use Rattle.cluster.specs.Replay.{IsRunnable, Prints, IsTextOfRun, record_text, schedule_run}
use Rattle.schedule_text.specs.Spelling.{schedule_text}
use Rattle.schedule_text.specs.declared.schedule.Schedule.{Schedule}
use Rattle.world_spec.specs.Messages.{IsWithinMessages}
use Rattle.run_laws.specs.Records.{IsAudited, IsReplayed}

same_ok : {T E : Type 0} (x y : T) → ◌≡◌ {A = Result T E} (Ok x) (Ok y) → x ≡ y
same_ok x y h = cc h

-- nothing in a schedule that was replayed ends a replay of it early
runnable : (schedule printed : List ℕ) → Prints (Some schedule) Status.Done printed → IsRunnable schedule
runnable schedule printed (now, is) = record {
  s = is.0;
  read = is.1;
  sound = is.3;
  apart = is.5.apart (1073741824, refl);
  fit = is.5.fit 1073741824 refl;
  within = is.4.0;
}

-- and each replay that runs to its end prints the same
same_print : (schedule printed other : List ℕ) → Prints (Some schedule) Status.Done printed → Prints (Some schedule) Status.Done other → other ≡ printed
same_print schedule printed other (now, is) (later, again) =
    let same : again.0 ≡ is.0 = same_ok again.0 is.0 (sym again.1 ∙ is.1) in
    one_text (schedule_run is.0) other printed (subst (λ (s : Schedule). IsWithinMessages (schedule_run s) × IsTextOfRun (schedule_run s) other) same again.4).1 is.4.1

-- what a cluster printed
record Record (text : List ℕ) : Type 0 where
  schedule : List ℕ
  printed : List ℕ
  is : text ≡ record_text schedule printed
  prints : Prints (Some schedule) Status.Done printed

record_of_run : (w : ClusterWords) (source : Option (List ℕ)) (text : List ℕ) → PrintsRecord w source Status.Done text → Record text
record_of_run w source text (before, now, (account, inl unread)) = absurd unread
record_of_run w source text (before, now, (account, inr run)) = record {
  schedule = schedule_text (recorded_schedule w run.3.0);
  printed = run.3.2.0;
  is = run.3.2.2;
  prints = (account, run.3.2.1.1);
}

pub is_replayed : (w : ClusterWords) (source : Option (List ℕ)) (text : List ℕ) → PrintsRecord w source Status.Done text → IsReplayed text
is_replayed w source text ends =
    let r = record_of_run w source text ends in
    record { schedule = r.schedule; printed = r.printed; is = r.is; runs = runnable r.schedule r.printed r.prints; prints = r.prints; only = λ other prints. same_print r.schedule r.printed other r.prints prints }

pub is_audited : (w : ClusterWords) (source : Option (List ℕ)) (text : List ℕ) → PrintsRecord w source Status.Done text → IsAudited text
is_audited w source text ends =
    let r = record_of_run w source text ends in
    record { schedule = r.schedule; printed = r.printed; is = r.is; well = replay_recorded r.schedule r.printed r.prints }
