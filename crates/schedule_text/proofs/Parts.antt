-- A text and the parts between its line feeds.
use Rattle.std.proofs.Common.{◌≡◌, ℕ, ◌+◌, ◌<◌, ◌≤◌, ◌==◌, nat_lt, Bool, true, false, Option, Some, None, List, [], ◌∷◌, length, take, drop, Result, Ok, Err, refl, sym, ap, ◌∙◌, arith, cond}
use Rattle.std.specs.Prelude.{MatchOption, position}
use Rattle.std.proofs.lemmas.Bool.Decides.{nat_tests}
use Rattle.std.proofs.lemmas.List.Splits.{slice_split_first, slice_split_none}
use Rattle.std.proofs.lemmas.List.Sums.{fails_before_first}
use Rattle.std.specs.List.{onto_first, position_or_len}
use Rattle.lexemes.specs.Words.{parts_of}
use Rattle.schedule_text.specs.Progress.{Progress}
use Rattle.schedule_text.specs.Reading.{and_then, next_line, read_parts, TakesLine}
use Rattle.schedule_text.specs.Errors.{Stops}
use Rattle.schedule_text.specs.declared.error.ScheduleError.{ScheduleError}
use Rattle.schedule_text.specs.declared.error.ScheduleError.TheVariants.{Bad, Lines, Memory}
use Rattle.schedule_text.specs.declared.schedule.Schedule.{Schedule}

-- there is at least one part
pub parts_of_some : (at : ℕ) (text : List ℕ) → (first : List ℕ) × (more : List (List ℕ)) × (parts_of at text ≡ first ∷ more)
parts_of_some at [] = ([], [], refl)
parts_of_some at (x ∷ xs) = by (x == at) (parts_of_some at xs)
  where
    by : (b : Bool) → (first : List ℕ) × (more : List (List ℕ)) × (parts_of at xs ≡ first ∷ more)
        → (first : List ℕ) × (more : List (List ℕ)) × (cond b ([] ∷ parts_of at xs) (onto_first x (parts_of at xs)) ≡ first ∷ more)
    by true (first, more, e) = ([], parts_of at xs, refl)
    by false (first, more, e) = (x ∷ first, more, ap (onto_first x) e)

-- a line, and the parts behind its line feed
pub read_parts-line : (p : Progress) (text rest : List ℕ)
    → read_parts p (text ∷ parts_of 10 rest) ≡ and_then (next_line p text) (λ q. read_parts q (parts_of 10 rest))
read_parts-line p text rest =
    let some = parts_of_some 10 rest in
    ap (λ (ps : List (List ℕ)). read_parts p (text ∷ ps)) some.2 ∙ sym (ap (λ (ps : List (List ℕ)). and_then (next_line p text) (λ q. read_parts q ps)) some.2)

-- the place of the first line feed
pub feed_place : (text : List ℕ) (n : ℕ) (b : Bool) (o : Option ℕ) → nat_lt n (length text) ≡ b → cond b (Some n) None ≡ o
    → MatchOption o (length text ≤ n) (λ at. (at ≡ n) × (n < length text))
feed_place text n true (Some at) e h = let same : n ≡ at = cc h in (sym same, grind (arith, nat_tests))
feed_place text n true None e h = cc h
feed_place text n false (Some at) e h = cc h
feed_place text n false None e h = grind (arith, nat_tests)

-- a text without a line feed is one part
pub parts_of-no_feed : (text : List ℕ) → position (λ b. b == 10) text ≡ None → parts_of 10 text ≡ text ∷ []
parts_of-no_feed text h =
    let far : length text ≤ position_or_len (λ b. b == 10) text = feed_place text (position_or_len (λ b. b == 10) text) _ None refl h in
    slice_split_none (λ b. b == 10) text (λ k d within. fails_before_first (λ b. b == 10) text k d (omega arith))

-- the first part of a text ends at its first line feed
pub parts_of-feed : (text : List ℕ) (at : ℕ) → position (λ b. b == 10) text ≡ Some at
    → (at < length text) × (parts_of 10 text ≡ take at text ∷ parts_of 10 (drop (at + 1) text))
parts_of-feed text at h =
    let place = feed_place text (position_or_len (λ b. b == 10) text) _ (Some at) refl h in
    let within : at < length text = rw place.0 place.1 in
    (within, rw place.0 (slice_split_first (λ b. b == 10) text 0 place.1))

-- a line that was taken
pub read_parts-taken : (p q : Progress) (text line more : List ℕ) (whole : Result Schedule ScheduleError)
    → read_parts p (parts_of 10 text) ≡ whole → parts_of 10 text ≡ line ∷ parts_of 10 more → next_line p line ≡ Ok q → read_parts q (parts_of 10 more) ≡ whole
read_parts-taken p q text line more whole h parts took =
    let step = ap (read_parts p) parts ∙ read_parts-line p line more ∙ ap (λ (r : Result Progress ScheduleError). and_then r (λ n. read_parts n (parts_of 10 more))) took in
    sym step ∙ h

-- a line that was refused
pub read_parts-refused : (p q : Progress) (text line more : List ℕ) (whole : Result Schedule ScheduleError) (e : ScheduleError)
    → read_parts p (parts_of 10 text) ≡ whole → parts_of 10 text ≡ line ∷ parts_of 10 more → TakesLine p line q (Err e) → Stops whole e
read_parts-refused p q text line more whole e h parts refused = by e refused
  where
    stop : (e : ScheduleError) → next_line p line ≡ Err e → whole ≡ Err e
    stop e no_line = sym h ∙ ap (read_parts p) parts ∙ read_parts-line p line more ∙ ap (λ (r : Result Progress ScheduleError). and_then r (λ n. read_parts n (parts_of 10 more))) no_line

    by : (e : ScheduleError) → TakesLine p line q (Err e) → Stops whole e
    by (Bad n cause) r = stop (Bad n cause) r.0
    by Lines r = stop Lines r.0
    by Memory r = tt
