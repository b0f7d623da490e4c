-- The lines of a schedule, one after another, and what a run that ended in one of them says of the whole.
use Rattle.std.proofs.Common.{◌≡◌, ◌≤◌, ◌<◌, ◌+◌, ℕ, zero, suc, Some, List, [], ◌∷◌, ◌++◌, length, slice_get, take, refl, sym, ap, subst, ◌∙◌, inl, inr, arith, append-nil, add-one}
use Rattle.std.specs.Prelude.{IfErr, drop, Result}
use Rattle.std.specs.Result.{IsErrAnd}
use Rattle.std.proofs.lemmas.List.{length-replicate}
use Rattle.std.proofs.lemmas.Option.{same_Some, none-some}
use Rattle.world_model.proofs.WorldSpec.{hashed_all, applied_prefix, IsFurther, applied_same, counted_grows, further_later, peers_in, run_grows, run_to_last}
use Rattle.world_model.specs.WorldSpec.{Account, HasFilled, HasHashed, StartsWith, applied, effect, run_from, IsPastMessages, IsWithinMessages, Run, in_front, unhashed, opening_run}
use Rattle.schedule_text.specs.declared.event.ScheduleEvent.{ScheduleEvent}
use Rattle.schedule_text.specs.declared.schedule.Schedule.{Schedule}
use Rattle.world_model.proofs.Events.{drop_one}
use Rattle.world_model.proofs.Reached.{cut_off_after, cut_off_further, errs}
use Rattle.world_model.proofs.Turning.{line_further, turn_alike, turns_alike}
use Rattle.world_model.specs.Refusals.{IsCutOff}
use Rattle.world_model.specs.Turns.{StopsAmong, StopsInTurn, StopsTurn, after_turns, turn, turns_of}
use Rattle.world_model.specs.declared.error.WorldError.{WorldError}
use Rattle.world_model.specs.declared.error.WorldError.TheVariants.{Clash, BookFull, MessageLimit, Memory}
use Rattle.replay.specs.Jobs.{hashed_by}
use Rattle.replay.specs.Stops.{CameTo, PassesLimit, RejectsIn, StopsIn, next_turn, run_after, run_until}
use Rattle.replay.specs.Worlds.{schedule_run}

-- ---- the first lines of a schedule, and one more

take_one : (all : List ScheduleEvent) (place : ℕ) (event : ScheduleEvent) → slice_get all place ≡ Some event → take (place + 1) all ≡ take place all ++ event ∷ []
take_one all place event here = ap (λ k. take k all) (add-one place) ∙ at all place event here
  where
    at : (all : List ScheduleEvent) (place : ℕ) (event : ScheduleEvent) → slice_get all place ≡ Some event → take (suc place) all ≡ take place all ++ event ∷ []
    at [] place event here = absurd (none-some event here)
    at (e ∷ es) zero event here = ap (λ x. x ∷ []) (same_Some e event here)
    at (e ∷ es) (suc place) event here = ap (λ l. e ∷ l) (at es place event here)

take_whole : (all : List ScheduleEvent) (place : ℕ) → length all ≤ place → take place all ≡ all
take_whole [] zero le = refl
take_whole [] (suc place) le = refl
take_whole (e ∷ es) zero le = absurd (omega (arith, le))
take_whole (e ∷ es) (suc place) le = ap (λ l. e ∷ l) (take_whole es place (omega (arith, le)))

parted : (all : List ScheduleEvent) (place : ℕ) → all ≡ take place all ++ drop place all
parted [] zero = refl
parted [] (suc place) = refl
parted (e ∷ es) zero = refl
parted (e ∷ es) (suc place) = ap (λ l. e ∷ l) (parted es place)

split_at : (all : List ScheduleEvent) (place : ℕ) (event : ScheduleEvent) → slice_get all place ≡ Some event → all ≡ take place all ++ event ∷ drop (place + 1) all
split_at all place event here = parted all place ∙ ap (λ l. take place all ++ l) (drop_one all place event here)

run_parts : (lines : List ScheduleEvent) (line : ScheduleEvent) (rest : List ScheduleEvent) (w : Run) → run_from (lines ++ line ∷ rest) w ≡ run_from rest (applied line (run_from lines w))
run_parts [] line rest w = refl
run_parts (e ∷ lines) line rest w = run_parts lines line rest (applied e w)

begun_anew : (w : Run) → w ≡ in_front w.hashed (unhashed w)
begun_anew w = ap (λ (h : List (List ℕ)). record w { hashed = h }) (sym (append-nil w.hashed))

-- a line hashes the same strings whatever was hashed before
pub after_strings : (line : ScheduleEvent) (w : Run) → applied line w ≡ in_front w.hashed (applied line (unhashed w))
after_strings line w = ap (applied line) (begun_anew w) ∙ applied_prefix line w.hashed (unhashed w)

-- a turn hashes the same strings whatever was hashed before
turn_after : (line : ScheduleEvent) (w : Run) → turn line w ≡ in_front w.hashed (turn line (unhashed w))
turn_after line w = ap (turn line) (begun_anew w) ∙ turn_alike line w.hashed (unhashed w)

-- ---- what a run that ended in a line says of the whole

module _ (s : Schedule) where
  module _ (done : List ScheduleEvent) (line : ScheduleEvent) (rest : List ScheduleEvent) (are : s.events ≡ done ++ line ∷ rest) (turns : ℕ) (few : turns < turns_of line) where
    -- the whole run goes on from the run after the line
    line_goes_on : IsFurther (applied line (run_after s done)) (schedule_run s)
    line_goes_on = subst (λ (w : Run). IsFurther (applied line (run_after s done)) w) (sym (ap (λ (lines : List ScheduleEvent). run_from lines (opening_run s.form s.peers s.view)) are ∙ run_parts done line rest (opening_run s.form s.peers s.view)))
        (run_grows rest (applied line (run_after s done)))

    -- and so from the run after each of its turns
    goes_on : IsFurther (turn line (run_until s done line turns)) (schedule_run s)
    goes_on =
        further_later (turn line (run_until s done line turns)) (effect line (run_after s done)) (schedule_run s) (line_further line (run_after s done) turns few)
        (further_later (effect line (run_after s done)) (applied line (run_after s done)) (schedule_run s) (counted_grows line (run_after s done)) line_goes_on)

    turn_strings : StartsWith ((run_until s done line turns).hashed ++ (next_turn s done line turns).hashed) (hashed_by s)
    turn_strings = subst (λ (w : Run). StartsWith w.hashed (hashed_by s)) (turn_after line (run_until s done line turns)) goes_on.hashed

  pub passes_whole : (first : Account) → PassesLimit s first → IsPastMessages (schedule_run s)
  passes_whole first p =
      let past : IsPastMessages (turn p.line (run_until s p.done p.line p.turns)) = subst IsPastMessages (sym (turn_after p.line (run_until s p.done p.line p.turns))) p.past in
      omega (arith, past, (goes_on p.done p.line p.came.rest p.came.are p.turns p.came.few).sent)

  -- a string of a line that was rejected is one of the run
  pub rejects_whole : (first now : Account) (e : WorldError) → RejectsIn s first (λ strings mid. IsCutOff strings mid now e) → IsCutOff (hashed_by s) first now e
  rejects_whole first now e (inl cut) = cut_off_further (run_after s []).hashed (hashed_by s) first now e (run_grows s.events (opening_run s.form s.peers s.view)).hashed cut
  rejects_whole first now e (inr (done, line, turns, mid, came, cut)) =
      cut_off_further ((run_until s done line turns).hashed ++ (next_turn s done line turns).hashed) (hashed_by s) first now e (turn_strings done line came.rest came.are turns came.few)
      (cut_off_after (run_until s done line turns).hashed (next_turn s done line turns).hashed first mid now e came.has cut)

  -- a string that did not fit, whatever number the error has
  pub rejects_filled : (first now : Account) (n : ℕ) → RejectsIn s first (λ strings mid. IsCutOff strings mid now (BookFull n)) → RejectsIn s first (λ strings mid. HasFilled strings mid now)
  rejects_filled first now n (inl cut) = inl cut.0
  rejects_filled first now n (inr (done, line, turns, mid, came, cut)) = inr (done, line, turns, mid, came, cut.0)

-- ---- a world that applies the lines one after another

-- the world is the run after the lines so far, which stays within the limit on messages, and the hasher
-- took its strings
pub record Doing (s : Schedule) (place : ℕ) (first : Account) (now : Run) (mid : Account) : Type 0 where
  pub is : now ≡ unhashed (run_after s (take place s.events))
  pub many : peers_in now ≡ s.peers
  pub within : IsWithinMessages (run_after s (take place s.events))
  pub has : HasHashed (run_after s (take place s.events)).hashed first mid

pub doing_first : (s : Schedule) (first : Account) (now : Run) (mid : Account) → now ≡ unhashed (opening_run s.form s.peers s.view) → HasHashed (opening_run s.form s.peers s.view).hashed first mid → Doing s 0 first now mid
doing_first s first now mid is has = record { is = is; many = rw is (length-replicate {A = _} s.peers _); within = omega arith; has = has }

module _ (s : Schedule) (place : ℕ) (first : Account) (now : Run) (mid : Account) (event : ScheduleEvent) (here : slice_get s.events place ≡ Some event) (old : Doing s place first now mid) where
  abbrev done : List ScheduleEvent
  done = take place s.events

  -- the run after the line, with the strings before it in front
  line_after : in_front (run_after s done).hashed (applied event (unhashed (run_after s done))) ≡ run_after s (done ++ event ∷ [])
  line_after = sym (run_to_last done event (opening_run s.form s.peers s.view) ∙ after_strings event (run_after s done))

  next_after : run_after s (done ++ event ∷ []) ≡ run_after s (take (place + 1) s.events)
  next_after = ap (λ (lines : List ScheduleEvent). run_after s lines) (sym (take_one s.events place event here))

  pub doing_next : (next : Run) (later : Account) → next ≡ unhashed (applied event now) → IsWithinMessages (applied event now) → HasHashed (applied event now).hashed mid later → Doing s (place + 1) first next later
  doing_next next later is within has = record {
    is = is ∙ ap (λ (w : Run). unhashed (applied event w)) old.is ∙ ap unhashed (line_after ∙ next_after);
    many = rw is (applied_same event now ∙ old.many);
    within = subst IsWithinMessages (line_after ∙ next_after) (subst (λ (w : Run). IsWithinMessages (applied event w)) old.is within);
    has = subst (λ (w : Run). HasHashed w.hashed first later) (line_after ∙ next_after)
        (hashed_all (run_after s done).hashed (applied event (unhashed (run_after s done))).hashed first mid later old.has (subst (λ (w : Run). HasHashed (applied event w).hashed mid later) old.is has));
  }

  -- an error stopped a turn of the line
  module _ (later : Account) (e : WorldError) (p : StopsInTurn (turns_of event) (turn event) (unhashed (run_after s done)) mid later e) where
    until : in_front (run_after s done).hashed (after_turns p.done (turn event) (unhashed (run_after s done))) ≡ run_until s done event p.done
    until = sym (turns_alike p.done (turn event) (turn_alike event) (run_after s done).hashed (unhashed (run_after s done))) ∙ ap (after_turns p.done (turn event)) (sym (begun_anew (run_after s done)))

    at_turn : CameTo s done event p.done first p.mid
    at_turn = record {
      rest = drop (place + 1) s.events;
      are = split_at s.events place event here;
      few = p.few;
      within = subst IsWithinMessages until p.within;
      has = subst (λ (w : Run). HasHashed w.hashed first p.mid) until (hashed_all (run_after s done).hashed (after_turns p.done (turn event) (unhashed (run_after s done))).hashed first mid p.mid old.has p.has);
    }

    stops_turn : StopsTurn p.mid (next_turn s done event p.done) later e
    stops_turn = subst (λ (w : Run). StopsTurn p.mid (turn event (unhashed w)) later e) until p.stops

  stops_line : (later : Account) (e : WorldError) → StopsAmong (turns_of event) (turn event) (unhashed (run_after s done)) mid later e → StopsIn s first later e
  stops_line later MessageLimit p =
      let stopped = stops_turn later MessageLimit p in
      record { done = done; line = event; turns = p.done; mid = p.mid; now = later; came = at_turn later MessageLimit p; past = stopped.0; has = stopped.1 }
  stops_line later Memory p = inl tt
  stops_line later (Clash kept new) p = inr (done, event, p.done, p.mid, at_turn later (Clash kept new) p, stops_turn later (Clash kept new) p)
  stops_line later (BookFull bytes) p = inr (done, event, p.done, p.mid, at_turn later (BookFull bytes) p, stops_turn later (BookFull bytes) p)

  pub stops : (later : Account) (e : WorldError) → StopsAmong (turns_of event) (turn event) now mid later e → StopsIn s first later e
  stops later e among = stops_line later e (subst (λ (w : Run). StopsAmong (turns_of event) (turn event) w mid later e) old.is among)

  -- an error of the line was passed on
  pub stops_in : {T : Type 0} (r : Result T WorldError) (G : WorldError → Type 0) (e : WorldError) (later : Account) → IsErrAnd r G → ((d : WorldError) → G d → d ≡ e) → StopsAmong (turns_of event) (turn event) now mid later e → IfErr r (StopsIn s first later)
  stops_in r G e later and same among = errs (StopsIn s first later) r G e and same (stops later e among)

-- an error before the first line was passed on
pub opening_stops : (s : Schedule) (first now : Account) (e : WorldError) → IsCutOff (opening_run s.form s.peers s.view).hashed first now e → StopsIn s first now e
opening_stops s first now MessageLimit cut = absurd cut
opening_stops s first now Memory cut = inl tt
opening_stops s first now (Clash kept new) cut = inl cut
opening_stops s first now (BookFull bytes) cut = inl cut

pub opening_stops_in : {T : Type 0} (s : Schedule) (first now : Account) (r : Result T WorldError) (G : WorldError → Type 0) (e : WorldError) → IsErrAnd r G → ((d : WorldError) → G d → d ≡ e) → IsCutOff (opening_run s.form s.peers s.view).hashed first now e → IfErr r (StopsIn s first now)
opening_stops_in s first now r G e and same cut = errs (StopsIn s first now) r G e and same (opening_stops s first now e cut)

-- the world after the last line
pub doing_last : (s : Schedule) (place : ℕ) (first : Account) (now : Run) (mid : Account) → length s.events ≤ place → Doing s place first now mid
    → (now ≡ unhashed (schedule_run s)) × IsWithinMessages (schedule_run s) × HasHashed (hashed_by s) first mid
doing_last s place first now mid le old =
    let whole : run_after s (take place s.events) ≡ schedule_run s = ap (λ (lines : List ScheduleEvent). run_after s lines) (take_whole s.events place le) in
    (old.is ∙ ap unhashed whole, subst IsWithinMessages whole old.within, subst (λ (w : Run). HasHashed w.hashed first mid) whole old.has)
