-- The record of a replay is read without a fault, and its report has none.
use Rattle.std.proofs.Common.{◌≡◌, ℕ, ◌+◌, ◌<◌, ◌≤◌, ◌^◌, ◌==◌, Bool, true, false, inl, inr, if◌then◌else◌, Option, None, Some, List, [], ◌∷◌, ◌++◌, length, codes, map, Ok, refl, sym, ap, subst, ◌∙◌, arith, append_assoc}
use Rattle.std.proofs.lemmas.Bool.Decides.{nat_tests}
use Rattle.std.proofs.lemmas.Bool.{ne_eqb}
use Rattle.std.specs.List.{AllByRecursion, flat_map}
use Rattle.std.specs.Prelude.{Contains}
use Rattle.protocol_laws.specs.Protocol.{State, state_after}
use Rattle.world_refinement.proofs.Causes.{causes_of}
use Rattle.world_refinement.proofs.ScheduleLaws.{schedules_are_legal}
use Rattle.world_refinement.specs.Causes.{HasCause, HaveCauses}
use Rattle.world_refinement.specs.Lines.{AreLegal, answers_in, calls_from}
use Rattle.ens_base.specs.Limits.{IsKey}
use Rattle.ens_base.specs.Lists.{◌∈◌, AreDistinct}
use Rattle.ens_base.specs.declared.status.Status.{Status}
use Rattle.ens_base.proofs.Tests.{itself}
use Rattle.ens_base.proofs.Lists.{from_map}
use Rattle.protocol_laws.proofs.Replies.{run_entries}
use Rattle.world_spec.specs.Held.{HasNoClash}
use Rattle.audit.specs.Reports.{IsReport}
use Rattle.audit.specs.declared.report.Report.{Report}
use Rattle.history_record.specs.Faults.{AreFaults}
use Rattle.history_record.specs.declared.fault.Fault.{Fault}
use Rattle.history_record.specs.Calls as record_calls
use Rattle.history_record.specs.Calls.{call_event, change_peer, keys_of}
use Rattle.history_record.specs.Reading.{record_of}
use Rattle.history_record.specs.declared.record.Record.{Record}
use Rattle.history_scribe.specs.Histories.{AreHistories, history_of}
use Rattle.history_scribe.specs.Text.{history_line, printed_line}
use Rattle.register_model.specs.Histories.{IsLegal}
use Rattle.register_model.specs.declared.answer.Answer.{Answer}
use Rattle.register_model.specs.declared.call.Call.{Call}
use Rattle.register_model.specs.declared.history.History.{History}
use Rattle.register_model.specs.declared.printed.Printed.{Printed}
use Rattle.register_model.specs.declared.printed.Printed.TheVariants as lines
use Rattle.cluster.proofs.Replay.{Contains_from_in, in_from_Contains, one_text, firm_lines}
use Rattle.cluster.specs.Replay.{Prints, hashed_by, IsTextOfRun, schedule_run}
use Rattle.protocol_laws.proofs.Noted.{Listed, run_listed}
use Rattle.schedule_input.specs.Premise.{first_unsound}
use Rattle.schedule_text.proofs.SchedulesRead.{schedule_of-ok}
use Rattle.schedule_text.specs.Reading.{schedule_of}
use Rattle.schedule_text.specs.Spelling.{AllMayStand, IsSchedule, call_ids, schedule_text}
use Rattle.schedule_text.specs.declared.event.ScheduleEvent.{ScheduleEvent}
use Rattle.schedule_text.specs.declared.event.ScheduleEvent.TheVariants as line
use Rattle.schedule_text.specs.declared.schedule.Schedule.{Schedule}
use Rattle.world_refinement.proofs.StepRefinement.{images_few}
use Rattle.world_refinement.proofs.Schedules.{id_called}
use Rattle.world_spec.specs.Runs.{Run, opening_run}
use Rattle.run_laws.proofs.Again.{HistoryFits, LineFits}
use Rattle.run_laws.proofs.Keys.{called_keys, keys_called, keys_rise}
use Rattle.run_laws.proofs.Printing.{PrintsOn, called_in, run_prints}
use Rattle.run_laws.proofs.Standing.{HasBook, few_events, has_book}
use Rattle.run_laws.proofs.Timely.{replies_fit, run_timely}
use Rattle.run_laws.proofs.Told.{AreTold, Follow, IsTimely, text_read}
use Rattle.run_laws.specs.Recorded.{IsFaultless, IsWellRecorded}

-- ## The calls of a schedule

-- they are those of its record
calls_same : (n : ℕ) (events : List ScheduleEvent) → calls_from n events ≡ record_calls.calls_from n events
calls_same n [] = refl
calls_same n (line.Call peer id key command ∷ more) = ap (λ (cs : List Call). record { id = id; key = key; command = command; event = n } ∷ cs) (calls_same (n + 1) more)
calls_same n (_ ∷ more) = calls_same (n + 1) more

-- each keeps its limits
call_fits : (peers n : ℕ) (events : List ScheduleEvent) (c : Call) → AllMayStand peers events → c ∈ calls_from n events → (c.id < 2 ^ 64) × IsKey c.key
call_fits peers n [] c may m = absurd m
call_fits peers n (line.Call peer id key command ∷ more) c may (inl e) = subst (λ (x : Call). (x.id < 2 ^ 64) × IsKey x.key) (sym e) (may.0.1, may.0.2)
call_fits peers n (line.Call peer id key command ∷ more) c may (inr m) = call_fits peers (n + 1) more c may.1 m
call_fits peers n (_ ∷ more) c may m = call_fits peers (n + 1) more c may.1 m

-- among distinct ids a call is found by its own
call_found : (n : ℕ) (events : List ScheduleEvent) (c : Call) → AreDistinct (call_ids events) → c ∈ calls_from n events → call_event n events c.id ≡ Some c.event
call_found n [] c distinct m = absurd m
call_found n (line.Call peer id key command ∷ more) c distinct (inl e) = subst (λ (x : Call). call_event n (line.Call peer id key command ∷ more) x.id ≡ Some x.event) (sym e) (rw (itself id) refl)
call_found n (line.Call peer id key command ∷ more) c distinct (inr m) =
    rw (ne_eqb id c.id (λ same. distinct.0 (subst (λ (i : ℕ). i ∈ call_ids more) (sym same) (id_called (n + 1) more c m)))) (call_found (n + 1) more c distinct.1 m)
call_found n (_ ∷ more) c distinct m = call_found (n + 1) more c distinct m

calls_few : (n : ℕ) (events : List ScheduleEvent) → length (calls_from n events) ≤ length events
calls_few n [] = omega arith
calls_few n (line.Call peer id key command ∷ more) = let later = calls_few (n + 1) more in omega (arith, later)
calls_few n (_ ∷ more) = let later = calls_few (n + 1) more in omega (arith, later)

key_fits : (peers : ℕ) (events : List ScheduleEvent) (k : List ℕ) → AllMayStand peers events → k ∈ called_in events → IsKey k
key_fits peers [] k may m = absurd m
key_fits peers (line.Call peer id key command ∷ more) k may (inl e) = subst IsKey (sym e) may.0.2
key_fits peers (line.Call peer id key command ∷ more) k may (inr m) = key_fits peers more k may.1 m
key_fits peers (_ ∷ more) k may m = key_fits peers more k may.1 m

-- a change is asked of a peer, at an event of the schedule
change_fits : (peers n : ℕ) (events : List ScheduleEvent) (e peer : ℕ) → AllMayStand peers events → change_peer n events e ≡ Some peer → (e < n + length events) × (peer ≤ peers)
change_fits peers n [] e peer may h = absurd cc
change_fits peers n (line.Change p view ∷ more) e peer may h = by (n == e) refl h (λ h. change_fits peers (n + 1) more e peer may.1 h)
  where
    by : (b : Bool) → (n == e) ≡ b → (if b then Some p else change_peer (n + 1) more e) ≡ Some peer → (change_peer (n + 1) more e ≡ Some peer → (e < n + 1 + length more) × (peer ≤ peers)) → (e < n + length (line.Change p view ∷ more)) × (peer ≤ peers)
    by true is h later = let same : p ≡ peer = cc in (here is, subst (λ (q : ℕ). q ≤ peers) same may.0.0.last)
      where
        here : (n == e) ≡ true → e < n + length (line.Change p view ∷ more)
        here is = grind (arith, nat_tests)
    by false is h later = let r = later h in (omega (arith, r.0), r.1)
change_fits peers n (_ ∷ more) e peer may h = let r = change_fits peers (n + 1) more e peer may.1 h in (omega (arith, r.0), r.1)

-- ## A report without faults

module _ (calls : List Call) (answers : List Answer) where
  no_faults : (histories : List History) (faults : List Fault) → ((h : History) → h ∈ histories → IsLegal calls answers h.key h.calls) → AreFaults calls answers histories faults → faults ≡ []
  no_faults [] faults legal are = are
  no_faults (h ∷ more) faults legal (inl rest) = no_faults more faults (λ g m. legal g (inr m)) rest.1
  no_faults (h ∷ more) faults legal (inr faulty) = absurd (faulty.3.illegal (legal h (inl refl)))

faultless : (r : Record) (report : Report) → ((h : History) → h ∈ r.histories → IsLegal (record_calls.calls_from 1 r.schedule.events) r.answers h.key h.calls) → IsReport r report → IsFaultless report
faultless r report legal is =
    let none = no_faults (record_calls.calls_from 1 r.schedule.events) r.answers r.histories report.faults.items legal is.faults in
    record { faults = none; legal = counted report.legal report.keys (length report.faults.items) is.legal (ap (λ (fs : List Fault). length fs) none) }
  where
    counted : (legal keys faults : ℕ) → legal + faults ≡ keys → faults ≡ 0 → legal ≡ keys
    counted legal keys faults e f = omega arith

-- ## What a run prints is told

all_from : {A : Type 0} (P : A → Type 0) (xs : List A) → ((x : A) → x ∈ xs → P x) → AllByRecursion P xs
all_from P [] h = tt
all_from P (x ∷ xs) h = (h x (inl refl), all_from P xs (λ y m. h y (inr m)))

lines_fit : (peers : ℕ) (events : List ScheduleEvent) (low high : ℕ) (printed : List Printed) → peers ≤ 31 → length events < 2 ^ 32 → AllMayStand peers events → Follow (change_peer 1 events) low high printed
    → ((a : Answer) → a ∈ answers_in printed → LineFits (lines.Answer a)) → AllByRecursion LineFits printed
lines_fit peers events low high [] small few may follow fit = tt
lines_fit peers events low high (lines.Answer a ∷ more) small few may follow fit = (fit a (inl refl), lines_fit peers events a.event high more small few may follow.1 (λ b m. fit b (inr m)))
lines_fit peers events low high (lines.Change event peer was ∷ more) small few may follow fit =
    let r = change_fits peers 1 events event peer may follow.1 in
    ((omega (arith, r.0, few), omega (arith, r.1, small)), lines_fit peers events (event + 1) high more small few may follow.2 fit)

lower : (asked : ℕ → Option ℕ) (low high : ℕ) (printed : List Printed) → Follow asked low high printed → Follow asked 0 high printed
lower asked low high [] f = omega arith
lower asked low high (lines.Answer a ∷ more) f = (omega arith, f.1)
lower asked low high (lines.Change event peer was ∷ more) f = (omega arith, f.1, f.2)

module _ (s : Schedule) (is : IsSchedule s) (sound : first_unsound s ≡ None) (apart : HasNoClash (hashed_by s)) where
  abbrev run : Run
  run = schedule_run s

  prints : PrintsOn 1 s.events (opening_run s.form s.peers s.view)
  prints = run_prints s.events (opening_run s.form s.peers s.view) 1 refl (omega (arith, is.lines))

  answer_told : (b : HasBook s) (a : Answer) → a ∈ answers_in run.printed → IsTimely s.events a × LineFits (lines.Answer a)
  answer_told b a m = by (causes.caused a m)
    where
      t : State
      t = state_after s.view b.steps

      causes : HaveCauses s.events run.printed run.notes
      causes = causes_of s.view b.steps s.events run b.run b.agrees

      listed : Listed t
      listed = run_listed s.view b.steps b.run

      noted : a ∈ t.book.answers
      noted = (b.agrees.answers a).1 m

      within : a.event ≤ length s.events
      within = subst (λ (n : ℕ). a.event ≤ n) b.agrees.now (subst (λ (x : Answer). x.event ≤ t.book.now) (listed.answer a noted) ((run_entries s.view b.steps b.run).answers a.id (listed.answered a noted)).now)

      by : (c : Call) × (c ∈ calls_from 1 s.events) × (c.id ≡ a.id) × HasCause (calls_from 1 s.events) run.notes c a.reply → IsTimely s.events a × LineFits (lines.Answer a)
      by c =
          let asked : t.book.asked a.id ≡ c.0 = subst (λ (i : ℕ). t.book.asked i ≡ c.0) c.2 (listed.asked c.0 ((b.agrees.calls c.0).1 c.1)) in
          let fits = call_fits s.peers 1 s.events c.0 is.events c.1 in (
            record {
              called = c.0.event;
              call = subst (λ (i : ℕ). call_event 1 s.events i ≡ Some c.0.event) c.2 (call_found 1 s.events c.0 is.distinct c.1);
              after = subst (λ (x : Call). x.event ≤ a.event) asked (run_timely s.view b.steps b.run a noted);
              within = within;
            },
            (subst (λ (i : ℕ). i < 2 ^ 64) c.2 fits.0, omega (arith, within, (few_events s is sound apart)), replies_fit s.view b.steps b.run b.asks b.epochs a noted),
          )

  told : AreTold s.events run.printed
  told =
      let b = has_book s is sound apart in
      let follow = subst (Follow (change_peer 1 s.events) 1 (1 + length s.events)) (sym prints.printed) prints.follow in
      record {
        last = 1 + length s.events;
        follow = lower (change_peer 1 s.events) 1 (1 + length s.events) run.printed follow;
        fit = lines_fit s.peers s.events 1 (1 + length s.events) run.printed is.peers.1 (few_events s is sound apart) is.events follow (λ a m. (answer_told b a m).1);
        timely = λ a m. (answer_told b a m).0;
        once = (causes_of s.view b.steps s.events run b.run b.agrees).once;
      }

  -- ## The histories of the run

  abbrev histories : List History
  histories = map (history_of run.notes) (keys_of s.events)

  are_histories : AreHistories run.notes run.called histories
  are_histories = (
    keys_of s.events,
    record {
      same = λ k. (
        λ has. subst (λ (ks : List (List ℕ)). Contains ks k) (sym prints.called) (Contains_from_in (called_in s.events) k (keys_called s.events k (in_from_Contains (keys_of s.events) k has))),
        λ has. Contains_from_in (keys_of s.events) k (called_keys s.events k (in_from_Contains (called_in s.events) k (subst (λ (ks : List (List ℕ)). Contains ks k) prints.called has))),
      );
      ascending = keys_rise s.events;
    },
    refl,
  )

  legal : AreLegal s.events run.printed histories
  legal = schedules_are_legal s.form s.peers s.view s.events is.peers.1 is.view.1 (few_events s is sound apart) (firm_lines s is sound) is.events is.distinct apart histories are_histories

  history_fits : (h : History) → h ∈ histories → HistoryFits h
  history_fits h m =
      let k = from_map (history_of run.notes) (keys_of s.events) h m in
      let l = legal h m in
      let shorter = images_few (λ (c : Call). c.id) (calls_from 1 s.events) h.calls l.once (λ id at. let c = l.of_key id at in (c.0, c.1, c.2)) in
      record {
        key = subst (λ (g : History). IsKey g.key) (sym k.2) (key_fits s.peers s.events k.0 is.events (keys_called s.events k.0 k.1));
        calls = all_from (λ id. id < 2 ^ 64) h.calls (λ id at. let c = l.of_key id at in subst (λ (i : ℕ). i < 2 ^ 64) c.2 (call_fits s.peers 1 s.events c.0 is.events c.1).0);
        few = omega (arith, shorter, calls_few 1 s.events, is.lines);
      }

  map_keys : (ks : List (List ℕ)) → map (λ h. h.key) (map (history_of run.notes) ks) ≡ ks
  map_keys [] = refl
  map_keys (k ∷ ks) = ap (λ (l : List (List ℕ)). k ∷ l) (map_keys ks)

  abbrev whole : Record
  whole = record { schedule = s; answers = answers_in run.printed; histories = histories }

  pub well_recorded : (bytes text : List ℕ) → schedule_of bytes ≡ Ok s → schedule_text s ≡ bytes → IsTextOfRun run text → IsWellRecorded bytes text
  well_recorded bytes text read same of =
      let printed : text ≡ flat_map printed_line run.printed ++ flat_map history_line histories = one_text run text _ of (histories, are_histories, refl) in
      let reads = text_read s run.printed histories is told (all_from HistoryFits histories history_fits) (map_keys (keys_of s.events)) in
      record {
        s = s;
        r = whole;
        schedule_is = read;
        record_is =
            ap record_of ((λ i. sym same i ++ codes "answers\n" ++ printed i) ∙ sym (append_assoc (schedule_text s ++ codes "answers\n") (flat_map printed_line run.printed) (flat_map history_line histories))) ∙ reads;
        of_run = record { schedule = refl; answers = refl; histories = are_histories };
        report = λ report are. faultless whole report (λ h m. subst (λ (cs : List Call). IsLegal cs (answers_in run.printed) h.key h.calls) (calls_same 1 s.events) (legal h m)) are;
      }

-- the record of a replay
pub replay_recorded : (bytes text : List ℕ) → Prints (Some bytes) Status.Done text → IsWellRecorded bytes text
replay_recorded bytes text h =
    let r = h.1 in
    well_recorded r.0 r.2 r.3 (r.5.apart (1073741824, refl)) bytes text r.1 (schedule_of-ok bytes r.0 r.1).1 r.4.1
