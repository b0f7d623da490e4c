-- The lines of one ensemble: their calls, and their numbers in the script.
use Rattle.std.proofs.Common.{◌≡◌, inl, inr, ℕ, zero, suc, ◌+◌, ◌-◌, ◌<◌, ◌≤◌, Bool, true, false, if◌then◌else◌, List, [], ◌∷◌, length, map, slice_index, refl, ap, ◌∙◌, arith}
use Rattle.ens_base.specs.Lists.{◌∈◌}
use Rattle.register_model.specs.Parts.{RiseWith, numbered_call}
use Rattle.history_record.specs.Calls.{call_at, calls_from}
use Rattle.register_model.specs.declared.answer.Answer.{Answer}
use Rattle.register_model.specs.declared.call.Call.{Call}
use Rattle.schedule_text.specs.declared.event.ScheduleEvent.{ScheduleEvent}
use Rattle.schedule_text.specs.declared.event.ScheduleEvent.TheVariants as schedule
use Rattle.scripts.specs.declared.slots.Ensemble.{Ensemble}
use Rattle.scripts.specs.declared.event.RootEvent.{RootEvent}
use Rattle.root_laws.specs.Lines.{Line, ensemble_of, events_of, lines_from, number_of, own_event, same_ensemble}

-- the calls of lines, with their numbers in the script
abbrev pub line_calls : List Line → List Call
line_calls [] = []
line_calls (l ∷ ls) = call_at l.event l.number (line_calls ls)

abbrev numbers : List Line → List ℕ
numbers lines = map (λ (l : Line). l.number) lines

-- these lines have these numbers, the first of which is asked for so
abbrev pub Numbers : (ℕ → ℕ) → ℕ → List Line → Type 0
Numbers f n [] = Unit {0}
Numbers f n (l ∷ ls) = (f n ≡ l.number) × Numbers f (n + 1) ls

call_at-map : (f : ℕ → ℕ) (event : ScheduleEvent) (n : ℕ) (rest : List Call) → map (numbered_call f) (call_at event n rest) ≡ call_at event (f n) (map (numbered_call f) rest)
call_at-map f (schedule.Call peer id key command) n rest = refl
call_at-map f _ n rest = refl

calls_numbered : (f : ℕ → ℕ) (n : ℕ) (lines : List Line) → Numbers f n lines → map (numbered_call f) (calls_from n (events_of lines)) ≡ line_calls lines
calls_numbered f n [] h = refl
calls_numbered f n (l ∷ ls) h =
    call_at-map f l.event n (calls_from (n + 1) (events_of ls)) ∙ ap (λ (k : ℕ). call_at l.event k (map (numbered_call f) (calls_from (n + 1) (events_of ls)))) h.0
    ∙ ap (λ (cs : List Call). call_at l.event l.number cs) (calls_numbered f (n + 1) ls h.1)

found_numbers : (xs : List ℕ) (n : ℕ) (lines : List Line) → ((j : ℕ) → slice_index xs (n + j) ≡ slice_index (numbers lines) j) → Numbers (λ k. slice_index xs (k - 1)) (n + 1) lines
found_numbers xs n [] h = tt
found_numbers xs n (l ∷ ls) h =
    let here : n + 1 - 1 ≡ n + 0 = omega arith in (
      ap (slice_index xs) here ∙ h 0,
      found_numbers xs (n + 1) ls (λ j. let at : n + 1 + j ≡ n + suc j = omega arith in ap (slice_index xs) at ∙ h (suc j)),
    )

pub own_numbers : (lines : List Line) → Numbers (number_of lines) 1 lines
own_numbers lines = found_numbers (numbers lines) 0 lines (λ j. let at : 0 + j ≡ j = omega arith in ap (slice_index (numbers lines)) at)

-- the calls of an ensemble, with the numbers of the script
pub own_calls : (lines : List Line) → map (numbered_call (number_of lines)) (calls_from 1 (events_of lines)) ≡ line_calls lines
own_calls lines = calls_numbered (number_of lines) 1 lines (own_numbers lines)

-- ---- numbers rise

abbrev pub Ascend : ℕ → List Line → Type 0
Ascend low [] = Unit {0}
Ascend low (l ∷ ls) = (low ≤ l.number) × Ascend (l.number + 1) ls

ascend_lower : (low high : ℕ) (lines : List Line) → low ≤ high → Ascend high lines → Ascend low lines
ascend_lower low high [] h k = tt
ascend_lower low high (l ∷ ls) h k = (let first : high ≤ l.number = k.0 in omega arith, k.1)

pub lines_ascend : (n : ℕ) (ensemble : Ensemble) (events : List RootEvent) → Ascend n (lines_from n ensemble events)
lines_ascend n ensemble [] = tt
lines_ascend n ensemble (event ∷ more) = by (same_ensemble (ensemble_of event) ensemble) (lines_ascend (n + 1) ensemble more)
  where
    by : (b : Bool) → Ascend (n + 1) (lines_from (n + 1) ensemble more)
        → Ascend n (if b then record { number = n; event = own_event event } ∷ lines_from (n + 1) ensemble more else lines_from (n + 1) ensemble more)
    by true later = (omega arith, later)
    by false later = ascend_lower n (n + 1) (lines_from (n + 1) ensemble more) (omega arith) later

at_least : (low : ℕ) (lines : List Line) (k : ℕ) → Ascend low lines → k < length lines → low ≤ slice_index (numbers lines) k
at_least low [] k h few = absurd (omega arith)
at_least low (l ∷ ls) zero h few = h.0
at_least low (l ∷ ls) (suc k) h few =
    let later : l.number + 1 ≤ slice_index (numbers ls) k = at_least (l.number + 1) ls k h.1 (omega arith) in
    let first : low ≤ l.number = h.0 in
    omega arith

rises : (low : ℕ) (lines : List Line) (j k : ℕ) → Ascend low lines → j < k → k < length lines → slice_index (numbers lines) j < slice_index (numbers lines) k
rises low [] j k h less few = absurd (omega arith)
rises low (l ∷ ls) j zero h less few = absurd (omega arith)
rises low (l ∷ ls) zero (suc k) h less few =
    let later : l.number + 1 ≤ slice_index (numbers ls) k = at_least (l.number + 1) ls k h.1 (omega arith) in
    omega arith
rises low (l ∷ ls) (suc j) (suc k) h less few = rises (l.number + 1) ls j k h.1 (omega arith) (omega arith)

-- ---- the first call has number 1

from_first : (n : ℕ) (events : List ScheduleEvent) (c : Call) → c ∈ calls_from n events → n ≤ c.event
from_first n [] c h = absurd h
from_first n (event ∷ more) c h = by event h (λ m. let after : n + 1 ≤ c.event = from_first (n + 1) more c m in omega arith)
  where
    by : (event : ScheduleEvent) → c ∈ call_at event n (calls_from (n + 1) more) → (c ∈ calls_from (n + 1) more → n ≤ c.event) → n ≤ c.event
    by (schedule.Call peer id key command) (inl is) later = let at : c.event ≡ n = ap (λ (d : Call). d.event) is in omega arith
    by (schedule.Call peer id key command) (inr m) later = later m
    by _ m later = later m

length-events : (lines : List Line) → length (events_of lines) ≡ length lines
length-events [] = refl
length-events (l ∷ ls) = ap (λ (k : ℕ). suc k) (length-events ls)

-- so the events of an ensemble rise with their numbers in the script
pub rise_with : (low : ℕ) (lines : List Line) (answers : List Answer) → Ascend low lines → ((a : Answer) → a ∈ answers → a.event ≤ length (events_of lines))
    → RiseWith (number_of lines) (length lines) (calls_from 1 (events_of lines)) answers
rise_with low lines answers ascend within = record {
  rise = λ x y from less to. rises low lines (x - 1) (y - 1) ascend (omega arith) (omega arith);
  first = λ c h. from_first 1 (events_of lines) c h;
  last = λ a h. omega (arith, within a h, length-events lines);
}
