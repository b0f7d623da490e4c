-- The reading of the schedule: so many lines, and calls of distinct ids.
use Rattle.std.proofs.Common.{◌≡◌, ℕ, ◌+◌, ◌≤◌, false, List, [], ◌∷◌, length, map, Ok, Err, refl, sym, ap, subst, arith}
use Rattle.std.specs.Prelude.{◌==◌, nat_lt}
use Rattle.std.proofs.lemmas.Bool.Decides.{nat_tests}
use Rattle.std.proofs.lemmas.List.{length-append}
use Rattle.ens_base.specs.Lists.{AreDistinct}
use Rattle.lexemes.specs.Causes.{or_cause}
use Rattle.lexemes.specs.Words.{words_of}
use Rattle.lexemes.specs.declared.cause.Cause.TheVariants.{Heading, Unfinished}
use Rattle.lexemes.proofs.Results.{bind_ok, ok_same}
use Rattle.schedule_text.proofs.Ids.{distinct_with}
use Rattle.schedule_text.proofs.SchedulesRead.{if_repeated, at_line_ok, unless_lines, bounded_err}
use Rattle.schedule_text.proofs.EventsRead.{short_enough}
use Rattle.schedule_text.specs.Events.{event_of, line_limit}
use Rattle.schedule_text.specs.Forms.{form_named}
use Rattle.schedule_text.specs.Progress.{Progress, Blank, Titled, Counted, Running, lines_so_far, is_repeated}
use Rattle.schedule_text.specs.Reading.{at_next, bounded, ended, finished, most_lines, next_line, opening_of, peers_of, with_line}
use Rattle.schedule_text.specs.Spelling.{call_ids}
use Rattle.schedule_text.specs.declared.event.ScheduleEvent.{ScheduleEvent}
use Rattle.schedule_text.specs.declared.event.ScheduleEvent.TheVariants as line
use Rattle.schedule_text.specs.declared.schedule.Schedule.{Schedule}
use Rattle.history_record.specs.Calls.{calls_from}
use Rattle.history_record.specs.Kept.{IsFit}
use Rattle.history_record.specs.Reading.{HasDistinct, IsBegun}

-- the ids of the calls are those of the events
pub ids_of_calls : (n : ℕ) (events : List ScheduleEvent) → map (λ c. c.id) (calls_from n events) ≡ call_ids events
ids_of_calls n [] = refl
ids_of_calls n (line.Call peer id key command ∷ more) = ap (λ (ids : List ℕ). id ∷ ids) (ids_of_calls (n + 1) more)
ids_of_calls n (_ ∷ more) = ids_of_calls (n + 1) more

-- one more line
record Grows (p q : Progress) : Type 0 where
  more : lines_so_far q ≡ lines_so_far p + 1
  distinct : HasDistinct p → HasDistinct q

with_line-grows : (p q : Progress) (text : List ℕ) → with_line p text ≡ Ok q → Grows p q
with_line-grows Blank q text h =
    let form = bind_ok (or_cause Heading (form_named text)) _ q h in
    subst (λ (r : Progress). Grows Blank r) (ok_same form.2) (record { more = refl; distinct = λ d. tt })
with_line-grows (Titled form) q text h =
    let n = bind_ok (peers_of (words_of text)) _ q h in
    subst (λ (r : Progress). Grows (Titled form) r) (ok_same n.2) (record { more = refl; distinct = λ d. tt })
with_line-grows (Counted form peers) q text h =
    let v = bind_ok (opening_of peers (words_of text)) _ q h in
    subst (λ (r : Progress). Grows (Counted form peers) r) (ok_same v.2) (record { more = refl; distinct = λ d. tt })
with_line-grows (Running form peers view events) q text h =
    let e = bind_ok (event_of peers text) _ q h in
    let once = if_repeated (is_repeated events e.0) _ q e.2 in
    subst (λ (r : Progress). Grows (Running form peers view events) r) once.1
    (record { more = omega (arith, length-append events (e.0 ∷ [])); distinct = λ d. distinct_with events e.0 d once.0 })

not_last : (n : ℕ) → (n == most_lines) ≡ false → n ≤ 200000 → n + 1 ≤ 200000
not_last n h k = grind (arith, nat_tests)

grows_line : (p q : Progress) (text : List ℕ) → next_line p text ≡ Ok q → Grows p q
grows_line p q text h =
    let parts = unless_lines (lines_so_far p == most_lines) (at_next p (bounded text (with_line p text))) q h in
    let within = at_line_ok (lines_so_far p + 1) (bounded text (with_line p text)) q parts.1 in
    with_line-grows p q text (short_enough (nat_lt line_limit (length text)) (with_line p text) q within)

-- a line adds one to the count
pub next_counts : (p q : Progress) (text : List ℕ) → next_line p text ≡ Ok q → lines_so_far q ≡ lines_so_far p + 1
next_counts p q text h = (grows_line p q text h).more

pub next_begun : (p q : Progress) (text : List ℕ) → next_line p text ≡ Ok q → IsBegun p → IsBegun q
next_begun p q text h begun =
    let parts = unless_lines (lines_so_far p == most_lines) (at_next p (bounded text (with_line p text))) q h in
    let grows = grows_line p q text h in
    record {
      few = subst (λ (n : ℕ). n ≤ 200000) (sym grows.more) (not_last (lines_so_far p) parts.0 begun.few);
      distinct = grows.distinct begun.distinct;
    }

finished-fit : (p : Progress) (s : Schedule) → finished p ≡ Ok s → IsBegun p → IsFit s
finished-fit Blank s h begun = cc h
finished-fit (Titled form) s h begun = cc h
finished-fit (Counted form peers) s h begun = cc h
finished-fit (Running form peers view events) s h begun =
    subst IsFit (ok_same h)
    (record {
      lines = let few : 3 + length events ≤ 200000 = begun.few in omega arith;
      calls = subst AreDistinct (sym (ids_of_calls 1 events)) begun.distinct;
    })

-- the schedule ends
pub ended-fit : (p : Progress) (rest : List ℕ) (s : Schedule) → ended p rest ≡ Ok s → IsBegun p → IsFit s
ended-fit p [] s h begun = finished-fit p s (at_line_ok (lines_so_far p + 1) (finished p) s h) begun
ended-fit p (b ∷ rest) s h begun =
    let parts = unless_lines (lines_so_far p == most_lines) (at_next p (bounded (b ∷ rest) (Err Unfinished))) s h in
    absurd (bounded_err (b ∷ rest) Unfinished s (at_line_ok (lines_so_far p + 1) (bounded (b ∷ rest) (Err Unfinished)) s parts.1))
