-- How a run that was recorded, or that stopped, makes a cluster end.
use Rattle.std.proofs.Common.{◌≡◌, ◌⊎◌, ◌≢◌, ◌≤◌, ◌+◌, ◌∙◌, ℕ, List, [], ◌∷◌, ◌++◌, length, codes, take, drop, Option, None, Some, Result, Ok, Err, refl, sym, ap, subst, inl, inr, arith, append-nil}
use Rattle.std.specs.Prelude.{IfSome, OnErr}
use Rattle.std.specs.Io.KnownBytes.{IsAtEnd}
use Rattle.ens_base.specs.Causes.{Rose}
use Rattle.ens_base.specs.declared.peer_words.ClusterWords.{ClusterWords}
use Rattle.ens_base.specs.declared.status.Status.{Status}
use Rattle.ens_base.proofs.Statuses.{memory_no_fault}
use Rattle.hash_book.specs.Hashing.{KeepsNothing}
use Rattle.environment.specs.declared.errors.LinkError.{LinkError}
use Rattle.environment.specs.declared.errors.LinkError.TheVariants as links
use Rattle.scripts.specs.Scripts.{IsScript, ended, next_line, script_of}
use Rattle.scripts.specs.declared.line.ScriptLine.{ScriptLine}
use Rattle.scripts.specs.declared.line.ScriptLine.TheVariants.{Event, Turn}
use Rattle.scripts.specs.declared.cluster_read.ReadError.{ReadError}
use Rattle.scripts.specs.declared.cluster_read.ReadError.TheVariants as read
use Rattle.cluster.proofs.Following.{part_whole}
use Rattle.cluster.proofs.Schedules.{recorded_is, recorded_sound}
use Rattle.cluster.specs.Messages.{AllRecorded}
use Rattle.cluster.specs.Recordings.{Follows, IsPart, Recording, frames_of, heard_all, recorded}
use Rattle.world_model.specs.WorldSpec.{Account, HasHashed, HasNoClash, IsWithinMessages, Run}
use Rattle.schedule_input.specs.Counting.{WasCutOff, WasTakenTo}
use Rattle.schedule_input.proofs.Counting.{taken_none}
use Rattle.replay.proofs.Endings.{book_ends, clash_ends, limit_ends, run_done}
use Rattle.replay.specs.Jobs.{clash_line, hashed_by}
use Rattle.replay.specs.Stops.{StopsIn}
use Rattle.replay.specs.Text.{IsTextOfRun, record_text}
use Rattle.replay.specs.Worlds.{schedule_run}
use Rattle.schedule_input.specs.Premise.{first_unsound}
use Rattle.schedule_text.proofs.SchedulesAgain.{schedule_of-text}
use Rattle.schedule_text.specs.Reading.{schedule_of}
use Rattle.schedule_text.specs.Spelling.{IsSchedule, schedule_text}
use Rattle.schedule_text.specs.declared.schedule.Schedule.{Schedule}
use Rattle.peer_turns.proofs.Following.{grew_none}
use Rattle.world_model.specs.Worlds.{run_of}
use Rattle.world_model.specs.declared.error.WorldError.{WorldError}
use Rattle.world_model.specs.declared.error.WorldError.TheVariants as worlds
use Rattle.cluster.specs.Endings.{IsStopText, IsUnread}
use Rattle.cluster.specs.Ends.{BrokenOff, CameThere, Ends, Handed, HasRead, IsCluster, Recorded, ReplaysAs, RunEnds, Stopped, Went, WentUntil, frames_before, opening, recorded_schedule}
use Rattle.cluster.specs.Recorders.{IsOpened, IsUnopened, Reached, RecordsAll, StopsAt, StopsInLink, StopsInWorld}
use Rattle.cluster.specs.declared.recorder.Recorder.{Recorder}
use Rattle.cluster.specs.declared.stop.Stop.{Stop}
use Rattle.cluster.specs.declared.stop.Stop.TheVariants.{Lines, World as OfWorld, Link as OfLink}

module _ {L : Type 0} (sent : L → Option (List (ℕ × List ℕ))) (given : L → Option (List (Option (List ℕ)))) (faults : L → ℕ) (w : ClusterWords) (first : Account) (a : L) where
  -- nothing was handed over, and no look was made
  stayed : (x y : L) → y ≡ x → Handed sent given [] [] x y
  stayed x y same = subst (λ (z : L). Handed sent given [] [] x z) (sym same) (record { looked = grew_none (given x); sends = grew_none (sent x) })

  -- a run that came to its end was stopped behind its last line
  went_until : (lines : List ScriptLine) (looks : List (Option (List ℕ))) (r : Recording) (x y : L) → Went sent given lines looks r x y → WentUntil sent given lines looks r x y
  went_until [] looks r x y went = stayed x y went
  went_until (Event event ∷ more) looks r x y went = inl (went.0, went.1, went_until more looks (recorded event r) went.0 y went.2)
  went_until (Turn count ∷ more) looks r x y went = inl (went.0, went.1, went_until more (drop count looks) (heard_all (take count looks) r) went.0 y went.2)

  -- the peers started
  pub opened_reached : (c : Recorder) (now : Account) → IsOpened w c first now → Reached sent given faults w first a [] (opening w) c a now
  opened_reached c now opened = record {
    schedule = opened.schedule;
    is = refl;
    took = opened.took;
    handed = record { looked = grew_none (given a); sends = grew_none (sent a) };
    grown = omega arith;
    later = omega arith;
  }

  -- they did not
  pub unopened : (script : List ScriptLine) (e : Stop) (now : Account) → IsUnopened w e first now → RecordsAll sent given faults w first a script (Err e) a now
  unopened script Lines now refused = absurd refused
  unopened script (OfWorld e) now refused = (
    [],
    [],
    opening w,
    tt,
    (refl, refl),
    record { stops = refused; stand = tt; few = omega arith; came = inl refl; handed = record { looked = grew_none (given a); sends = grew_none (sent a) } },
    stayed a a refl,
  )
  unopened script (OfLink e) now refused = absurd refused

  module _ (script : List ScriptLine) (words : IsCluster w) (is : IsScript w.peers script) (b : L) (now : Account) where
    -- ---- the script was followed to its end

    module _ (c : Recorder) (all : RecordsAll sent given faults w first a script (Ok c) b now) where
      abbrev r : Recording
      r = all.1.1

      abbrev s : Schedule
      s = recorded_schedule w r

      schedule_is : c.schedule ≡ s
      schedule_is = all.1.3.schedule

      stand : AllRecorded w.peers r.events
      stand = subst (λ (t : Schedule). AllRecorded t.peers t.events) schedule_is all.0.stand

      few : length r.events + 3 ≤ 200000
      few = subst (λ (t : Schedule). length t.events + 3 ≤ 200000) schedule_is all.0.few

      valid : IsSchedule s
      valid = recorded_is w.peers w.view script script all.1.0 r words.peers words.view is (part_whole script) all.1.2 stand few

      sound : first_unsound s ≡ None
      sound = recorded_sound w.peers w.view script script all.1.0 r words.peers words.view is (part_whole script) all.1.2 stand few

      whole : Recorded sent given w script r a b
      whole = record { looks = all.1.0; follows = all.1.2; handed = all.1.3.handed; went = all.1.4 }

      pub took : HasHashed (hashed_by s) first now
      took = subst (λ (v : Run). HasHashed v.hashed first now) all.1.3.is all.1.3.took

      pub done_ends : (text : List ℕ) → (KeepsNothing first.kept → HasNoClash (hashed_by s)) → (printed : List ℕ) × IsTextOfRun (run_of c.world) printed × (text ≡ record_text (schedule_text c.schedule) printed)
          → RunEnds sent given faults first now w script a b Status.Done text
      done_ends text apart p =
          let run_text : IsTextOfRun (schedule_run c.schedule) p.0 = subst (λ (v : Run). IsTextOfRun v p.0) all.0.world p.1 in
          let printed : IsWithinMessages (schedule_run s) × IsTextOfRun (schedule_run s) p.0 = subst (λ (t : Schedule). IsWithinMessages (schedule_run t) × IsTextOfRun (schedule_run t) p.0) schedule_is (all.0.within, run_text) in
          let replays : ReplaysAs first now w r Status.Done p.0 = (valid, run_done first now s sound p.0 valid printed took apart (Some (schedule_text s)) (schedule_of-text s valid)) in
          (r, whole, (p.0, replays, p.2 ∙ ap (λ (t : Schedule). record_text (schedule_text t) p.0) schedule_is))

      done_broken : BrokenOff sent given w script a b
      done_broken = record {
        part = script;
        is_part = part_whole script;
        looks = all.1.0;
        r = r;
        follows = all.1.2;
        prefix = frames_of r.run;
        rest = [];
        all = sym (append-nil (frames_of r.run));
        most = all.1.3.grown;
        handed = all.1.3.handed;
        went = went_until script all.1.0 (opening w) a b all.1.4;
      }

    -- ---- it was stopped

    module _ (part : List ScriptLine) (looks : List (Option (List ℕ))) (r : Recording) (is_part : IsPart part script) (follows : Follows part looks (opening w) r) (went : WentUntil sent given part looks (opening w) a b) where
      abbrev stopped_schedule : Schedule
      stopped_schedule = recorded_schedule w r

      -- the world stopped it
      stopped_there : CameThere first w r → Handed sent given looks (frames_before w r) a b → Stopped sent given first w script r a b
      stopped_there came handed = record { part = part; is_part = is_part; looks = looks; follows = follows; came = came; handed = handed; went = went }

      module _ (stand : AllRecorded w.peers r.events) (few : length r.events + 3 ≤ 200000) where
        valid_then : IsSchedule stopped_schedule
        valid_then = recorded_is w.peers w.view script part looks r words.peers words.view is is_part follows stand few

        sound_then : first_unsound stopped_schedule ≡ None
        sound_then = recorded_sound w.peers w.view script part looks r words.peers words.view is is_part follows stand few

        again : schedule_of (schedule_text stopped_schedule) ≡ Ok stopped_schedule
        again = schedule_of-text stopped_schedule valid_then

        -- a replay of what was recorded ends in the same way
        pub clash_again : (kept new text : List ℕ) → StopsIn stopped_schedule first now (worlds.Clash kept new) → text ≡ clash_line kept new → ReplaysAs first now w r Status.Clash text
        clash_again kept new text stops is_text = (valid_then, clash_ends first now stopped_schedule sound_then kept new text stops is_text (Some (schedule_text stopped_schedule)) again)

        pub book_again : (bytes : ℕ) (text : List ℕ) → StopsIn stopped_schedule first now (worlds.BookFull bytes) → text ≡ codes "limit book 1073741824" ++ 10 ∷ [] → ReplaysAs first now w r Status.Limit text
        book_again bytes text stops is_text = (valid_then, book_ends first now stopped_schedule sound_then bytes text stops is_text (Some (schedule_text stopped_schedule)) again)

        pub limit_again : (text : List ℕ) → StopsIn stopped_schedule first now worlds.MessageLimit → text ≡ codes "limit messages 500000" ++ 10 ∷ [] → ReplaysAs first now w r Status.Limit text
        limit_again text stops is_text = (valid_then, limit_ends first now stopped_schedule sound_then text stops is_text (Some (schedule_text stopped_schedule)) again)

      world_ends : (e : WorldError) (status : Status) (text : List ℕ) → StopsInWorld sent given faults w first a looks r e b now → IsStopText (OfWorld e) status text → RunEnds sent given faults first now w script a b status text
      world_ends (worlds.Clash kept new) status text stop is_text =
          subst (λ (st : Status). RunEnds sent given faults first now w script a b st text) (sym is_text.0)
          (r, stopped_there stop.came stop.handed, clash_again stop.stand stop.few kept new text stop.stops is_text.1)
      world_ends (worlds.BookFull bytes) status text stop is_text =
          subst (λ (st : Status). RunEnds sent given faults first now w script a b st text) (sym is_text.0)
          (r, stopped_there stop.came stop.handed, inr (book_again stop.stand stop.few bytes text stop.stops is_text.1))
      world_ends worlds.MessageLimit status text stop is_text =
          subst (λ (st : Status). RunEnds sent given faults first now w script a b st text) (sym is_text.0)
          (r, stopped_there stop.came stop.handed, inr (limit_again stop.stand stop.few text stop.stops is_text.1))
      world_ends worlds.Memory status text stop is_text = absurd is_text

      -- the link stopped it, or memory ran out
      broken_off : (e : LinkError) → StopsInLink sent given faults w first a looks r e b → BrokenOff sent given w script a b
      broken_off e stop = record {
        part = part;
        is_part = is_part;
        looks = looks;
        r = r;
        follows = follows;
        prefix = stop.prefix;
        rest = stop.rest;
        all = stop.all;
        most = stop.most;
        handed = stop.handed;
        went = went;
      }

      stop_then : (e : Stop) (status : Status) (text : List ℕ) → StopsAt sent given faults w first a looks r e b now → IsStopText e status text → RunEnds sent given faults first now w script a b status text
      stop_then Lines status text stop is_text =
          subst (λ (st : Status). RunEnds sent given faults first now w script a b st text) (sym is_text.0) (r, stopped_there stop.1 stop.2, inl (stop.0, is_text.1))
      stop_then (OfWorld e) status text stop is_text = world_ends e status text stop is_text
      stop_then (OfLink links.Failed) status text stop is_text =
          subst (λ (st : Status). RunEnds sent given faults first now w script a b st text) (sym is_text.0) (broken_off links.Failed stop, stop.cause refl, is_text.1)
      stop_then (OfLink links.Memory) status text stop is_text = absurd is_text

      -- memory ran out for the text of its end
      memory_then : (e : Stop) → StopsAt sent given faults w first a looks r e b now → BrokenOff sent given w script a b ⊎ ((s : Recording) × Stopped sent given first w script s a b)
      memory_then Lines stop = inr (r, stopped_there stop.1 stop.2)
      memory_then (OfWorld e) stop = inr (r, stopped_there stop.came stop.handed)
      memory_then (OfLink e) stop = inl (broken_off e stop)

    pub stop_ends : (e : Stop) (status : Status) (text : List ℕ) → RecordsAll sent given faults w first a script (Err e) b now → IsStopText e status text → RunEnds sent given faults first now w script a b status text
    stop_ends e status text all is_text = stop_then all.0 all.1 all.2 all.3 all.4 all.6 e status text all.5 is_text

    -- memory ran out, at any point of it
    pub memory_ends : (result : Result Recorder Stop) (text : List ℕ) → RecordsAll sent given faults w first a script result b now → text ≡ codes "memory" ++ 10 ∷ [] → RunEnds sent given faults first now w script a b Status.Memory text
    memory_ends (Ok c) text all is_text = (inl (done_broken c all), is_text)
    memory_ends (Err e) text all is_text = (memory_then all.0 all.1 all.2 all.3 all.4 all.6 e all.5, is_text)

  -- ---- the whole job

  pub script_ends : (source : Option (List ℕ)) (script : List ScriptLine) (b : L) (now : Account) (status : Status) (text : List ℕ) → IsScript w.peers script → IfSome source (λ bytes. script_of w.peers bytes ≡ Ok script) → RunEnds sent given faults first now w script a b status text
      → Ends sent given faults first now w source a b status text
  script_ends source script b now status text is reads ends = inr (script, is, reads, ends)

  pub unread_ends : (source : Option (List ℕ)) (error : ReadError) (now : Account) (status : Status) (text : List ℕ) → IsUnread w.peers source error status text → Ends sent given faults first now w source a a status text
  unread_ends source (read.Bad line cause) now status text unread = subst (λ (st : Status). Ends sent given faults first now w source a a st text) (sym unread.0) (inl ((line, cause, unread.1, unread.2), refl))
  unread_ends source read.Lines now status text unread = subst (λ (st : Status). Ends sent given faults first now w source a a st text) (sym unread.0) (inl (unread.1, unread.2, refl))
  unread_ends source read.Failed now status text unread = subst (λ (st : Status). Ends sent given faults first now w source a a st text) (sym unread.0) (inl (unread.1, refl))
  unread_ends source read.Memory now status text unread = absurd unread

  -- memory ran out before a script was read
  pub unread_memory : (source : Option (List ℕ)) (now : Account) → Ends sent given faults first now w source a a Status.Memory (codes "memory" ++ 10 ∷ [])
  unread_memory source now = inl (refl, refl)

  -- the status that is returned, and the text that is printed
  pub run_ends_as : (script : List ScriptLine) (b : L) (now : Account) (status ended : Status) (text printed : List ℕ) → ended ≡ status → printed ≡ text → RunEnds sent given faults first now w script a b status text → RunEnds sent given faults first now w script a b ended printed
  run_ends_as script b now status ended text printed is are ends =
      subst (λ (st : Status). RunEnds sent given faults first now w script a b st printed) (sym is) (subst (λ (t : List ℕ). RunEnds sent given faults first now w script a b status t) (sym are) ends)

  pub ends_as : (source : Option (List ℕ)) (b : L) (now : Account) (status ended : Status) (text printed : List ℕ) → ended ≡ status → printed ≡ text → Ends sent given faults first now w source a b status text → Ends sent given faults first now w source a b ended printed
  ends_as source b now status ended text printed is are ends =
      subst (λ (st : Status). Ends sent given faults first now w source a b st printed) (sym is) (subst (λ (t : List ℕ). Ends sent given faults first now w source a b status t) (sym are) ends)

  -- how far the source was read
  pub read_whole : (script : List ScriptLine) (source left : Option (List ℕ)) (before later : ℕ) (b : L) (now : Account) (status : Status) (text : List ℕ) → WasTakenTo (next_line w.peers) ended [] length source left → IsAtEnd left → RunEnds sent given faults first now w script a b status text
      → HasRead w source left before later status
  read_whole script source left before later b now status text taken end ends = record {
    taken = taken;
    end = λ needs. end;
    limit = λ e. inr end;
    fault = λ e. absurd (subst (λ (st : Status). RunEnds sent given faults first now w script a b st text) e ends);
  }

  pub run_status : (script : List ScriptLine) (b : L) (now : Account) (status : Status) (text : List ℕ) → RunEnds sent given faults first now w script a b status text → status ≢ Status.WriteFault
  run_status script b now status text ends same = subst (λ (st : Status). RunEnds sent given faults first now w script a b st text) same ends

-- over an equal account
pub ends_from : {L : Type 0} (sent : L → Option (List (ℕ × List ℕ))) (given : L → Option (List (Option (List ℕ)))) (faults : L → ℕ) (w : ClusterWords) (first same now : Account) (source : Option (List ℕ)) (a b : L) (status : Status) (text : List ℕ) → first ≡ same
    → Ends sent given faults first now w source a b status text → Ends sent given faults same now w source a b status text
ends_from sent given faults w first same now source a b status text is ends = subst (λ (f : Account). Ends sent given faults f now w source a b status text) is ends

-- the status that is returned, and how far the source was read
pub ended_as : (w : ClusterWords) (source left : Option (List ℕ)) (before later : ℕ) (status ended : Status) → ended ≡ status → HasRead w source left before later status → HasRead w source left before later ended
ended_as w source left before later status ended is has = subst (HasRead w source left before later) (sym is) has

-- ---- what holds at an error

pub OnErr-weaker : {A E : Type 0} (r : Result A E) (X Y : Type 0) → (X → Y) → OnErr r X → OnErr r Y
OnErr-weaker (Ok x) X Y by is = tt
OnErr-weaker (Err e) X Y by is = by is

-- a status that is no other
schedule_no_limit : ◌≡◌ {A = Status} Status.Schedule Status.Limit → ⊥
schedule_no_limit e = cc e

schedule_no_fault : ◌≡◌ {A = Status} Status.Schedule Status.ReadFault → ⊥
schedule_no_fault e = cc e

limit_no_fault : ◌≡◌ {A = Status} Status.Limit Status.ReadFault → ⊥
limit_no_fault e = cc e

fault_no_limit : ◌≡◌ {A = Status} Status.ReadFault Status.Limit → ⊥
fault_no_limit e = cc e

memory_no_limit : ◌≡◌ {A = Status} Status.Memory Status.Limit → ⊥
memory_no_limit e = cc e

usage_no_limit : ◌≡◌ {A = Status} Status.Usage Status.Limit → ⊥
usage_no_limit e = cc e

usage_no_fault : ◌≡◌ {A = Status} Status.Usage Status.ReadFault → ⊥
usage_no_fault e = cc e

-- how far a job read its source that memory ran out for, or that did not begin
pub memory_taken : (w : ClusterWords) (source left : Option (List ℕ)) (before later : ℕ) → WasTakenTo (next_line w.peers) ended [] length source left → HasRead w source left before later Status.Memory
memory_taken w source left before later taken = record { taken = taken; end = λ needs. absurd needs; limit = λ e. absurd (memory_no_limit e); fault = λ e. absurd (memory_no_fault e) }

pub memory_read : (w : ClusterWords) (source : Option (List ℕ)) (before later : ℕ) → HasRead w source source before later Status.Memory
memory_read w source before later = memory_taken w source source before later (taken_none (next_line w.peers) ended [] length source (omega arith))

pub usage_read : (w : ClusterWords) (source : Option (List ℕ)) (before later : ℕ) → HasRead w source source before later Status.Usage
usage_read w source before later = record {
  taken = taken_none (next_line w.peers) ended [] length source (omega arith);
  end = λ needs. absurd needs;
  limit = λ e. absurd (usage_no_limit e);
  fault = λ e. absurd (usage_no_fault e);
}

-- an error of reading, and how far it read
pub unread_read : (w : ClusterWords) (source left : Option (List ℕ)) (before later : ℕ) (error : ReadError) (status : Status) (text : List ℕ) → WasTakenTo (next_line w.peers) ended [] length source left → IsUnread w.peers source error status text
    → (error ≡ read.Failed → Rose before later × WasCutOff (next_line w.peers) ended [] length source left) → HasRead w source left before later status
unread_read w source left before later (read.Bad line cause) status text taken unread failed =
    subst (HasRead w source left before later) (sym unread.0) (record { taken = taken; end = λ needs. absurd needs; limit = λ e. absurd (schedule_no_limit e); fault = λ e. absurd (schedule_no_fault e) })
unread_read w source left before later read.Lines status text taken unread failed =
    subst (HasRead w source left before later) (sym unread.0) (record { taken = taken; end = λ needs. absurd needs; limit = λ e. inl unread.1; fault = λ e. absurd (limit_no_fault e) })
unread_read w source left before later read.Failed status text taken unread failed =
    subst (HasRead w source left before later) (sym unread.0) (record { taken = taken; end = λ needs. absurd needs; limit = λ e. absurd (fault_no_limit e); fault = λ e. failed refl })
unread_read w source left before later read.Memory status text taken unread failed = absurd unread

pub unread_status : (peers : ℕ) (source : Option (List ℕ)) (error : ReadError) (status : Status) (text : List ℕ) → IsUnread peers source error status text → status ≢ Status.WriteFault
unread_status peers source (read.Bad line cause) status text unread same = no_write (sym unread.0 ∙ same)
  where
    no_write : ◌≡◌ {A = Status} Status.Schedule Status.WriteFault → ⊥
    no_write e = cc e
unread_status peers source read.Lines status text unread same = no_write (sym unread.0 ∙ same)
  where
    no_write : ◌≡◌ {A = Status} Status.Limit Status.WriteFault → ⊥
    no_write e = cc e
unread_status peers source read.Failed status text unread same = no_write (sym unread.0 ∙ same)
  where
    no_write : ◌≡◌ {A = Status} Status.ReadFault Status.WriteFault → ⊥
    no_write e = cc e
unread_status peers source read.Memory status text unread same = absurd unread
