-- The lines of a source, taken one after another, are the parts into which its bytes are split.
use Rattle.std.proofs.Common.{◌≡◌, ◌≢◌, ℕ, ◌+◌, ◌<◌, ◌≤◌, ◌==◌, Bool, true, false, List, [], ◌∷◌, ◌++◌, length, Option, None, Some, Result, Ok, Err, refl, sym, ap, subst, ◌∙◌, append-nil, arith, length-append}
use Rattle.std.specs.Prelude.{IfSome, nat_lt, if◌then◌else◌}
use Rattle.std.specs.Io.KnownBytes.{Consumes, Keeps, IsAtEnd, prepend_known}
use Rattle.std.proofs.lemmas.Bool.Decides.{nat_tests}
use Rattle.std.proofs.lemmas.List.Splits.{slice_split-cons_yes, slice_split-cons_no, slice_split_none}
use Rattle.environment.specs.Lines.{HasNoFeed, BeginsLong}
use Rattle.lexemes.specs.Causes.{or_cause}
use Rattle.lexemes.specs.Words.{parts_of, words_of}
use Rattle.lexemes.specs.declared.cause.Cause.{Cause}
use Rattle.lexemes.specs.declared.cause.Cause.TheVariants.{TooLong, Unfinished, Repeated, Heading}
use Rattle.schedule_text.specs.Events.{event_of, line_limit}
use Rattle.schedule_text.specs.Progress.{Progress, Blank, Titled, Counted, Running, lines_so_far, is_repeated}
use Rattle.schedule_text.specs.Reading.{next_line, with_line, bounded, at_next, ended, and_then, read_parts, most_lines, peers_of, opening_of, TakesLine}
use Rattle.schedule_text.specs.Forms.{form_named}
use Rattle.schedule_text.specs.declared.error.ScheduleError.{ScheduleError}
use Rattle.schedule_text.specs.declared.error.ScheduleError.TheVariants.{Bad, Lines, Memory}
use Rattle.schedule_text.specs.declared.schedule.Schedule.{Schedule}
use Rattle.schedule_text.specs.declared.event.ScheduleEvent.{ScheduleEvent}
use Rattle.schedule_text.proofs.EventsRead.{short_enough}
use Rattle.schedule_text.proofs.SchedulesRead.{at_line_ok, past_lines, last_is_tested, from_bind}
use Rattle.schedule_input.specs.declared.read.ReadError.{ReadError}
use Rattle.schedule_input.specs.declared.read.ReadError.TheVariants as read
use Rattle.schedule_input.specs.Reading.{ReadsAs, ReadsOn, Refuses, of_schedule}
use Rattle.schedule_input.proofs.LineParts.{no_feeds, parts_line, onto_some, first_part, long_part}

-- a line in front of more lines
read_more : (p : Progress) (v : List ℕ) (parts : List (List ℕ)) (w : List ℕ) (more : List (List ℕ)) → parts ≡ w ∷ more → read_parts p (v ∷ parts) ≡ and_then (next_line p v) (λ q. read_parts q parts)
read_more p v parts w more e = let P : List (List ℕ) → Type 0 = λ l. read_parts p (v ∷ l) ≡ and_then (next_line p v) (λ q. read_parts q l) in subst P (sym e) refl

pub read_line : (p : Progress) (x v y : List ℕ) → HasNoFeed v → x ≡ (v ++ 10 ∷ []) ++ y → read_parts p (parts_of 10 x) ≡ and_then (next_line p v) (λ q. read_parts q (parts_of 10 y))
read_line p x v y clear is =
    let part = first_part y in
    ap (λ (l : List ℕ). read_parts p (parts_of 10 l)) is ∙ ap (λ (l : List (List ℕ)). read_parts p l) (parts_line v y clear) ∙ read_more p v (parts_of 10 y) part.0 part.1 part.2

pub line_taken : (a b : Option (List ℕ)) (p q : Progress) (v : List ℕ) → HasNoFeed v → Consumes a b (v ++ 10 ∷ []) → next_line p v ≡ Ok q → ReadsOn a p b q
line_taken None b p q v clear took ok = tt
line_taken (Some x) None p q v clear took ok = absurd took
line_taken (Some x) (Some y) p q v clear took ok = read_line p x v y clear took ∙ ap (λ (r : Result Progress ScheduleError). and_then r (λ s. read_parts s (parts_of 10 y))) ok

line_refused : (a b : Option (List ℕ)) (p : Progress) (v : List ℕ) (e : ScheduleError) → HasNoFeed v → Consumes a b (v ++ 10 ∷ []) → next_line p v ≡ Err e → ReadsAs a p (Err e)
line_refused None b p v e clear took bad = tt
line_refused (Some x) None p v e clear took bad = absurd took
line_refused (Some x) (Some y) p v e clear took bad = read_line p x v y clear took ∙ ap (λ (r : Result Progress ScheduleError). and_then r (λ s. read_parts s (parts_of 10 y))) bad

pub refuses_line : (a b : Option (List ℕ)) (p new : Progress) (v : List ℕ) (e : ScheduleError) → HasNoFeed v → Consumes a b (v ++ 10 ∷ []) → TakesLine p v new (Err e) → Refuses a p (of_schedule e)
refuses_line a b p new v (Bad line cause) clear took bad = line_refused a b p v (Bad line cause) clear took bad.0
refuses_line a b p new v Lines clear took bad = line_refused a b p v Lines clear took bad.0
refuses_line a b p new v Memory clear took bad = tt

-- a line that is too long
pub too_long : {A : Type 0} (t : List ℕ) (r : Result A Cause) → 4400 < length t → bounded t r ≡ Err TooLong
too_long t r long = by_test (nat_lt line_limit (length t)) (grind (arith, nat_tests, long))
  where
    by_test : (b : Bool) → b ≡ true → (if b then Err TooLong else r) ≡ Err TooLong
    by_test true e = refl
    by_test false e = absurd cc

by_length : {A : Type 0} (p : Progress) (t : List ℕ) (r : Result A Cause) → 4400 < length t → (if lines_so_far p == most_lines then Err Lines else at_next p (bounded t r)) ≡ (if lines_so_far p == most_lines then Err Lines else at_next p (Err TooLong))
by_length {A} p t r long = ap (λ (x : Result A Cause). if lines_so_far p == most_lines then Err Lines else at_next p x) (too_long t r long)

abbrev long_error : {A : Type 0} → Progress → Result A ScheduleError
long_error p = if lines_so_far p == most_lines then Err Lines else at_next p (Err TooLong)

same_error : {A B : Type 0} (p : Progress) (e : ScheduleError) (b : Bool) → (let r : Result A ScheduleError = if b then Err Lines else at_next p (Err TooLong) in r ≡ Err e) → (let s : Result B ScheduleError = if b then Err Lines else at_next p (Err TooLong) in s ≡ Err e)
same_error p e true h = let is : Lines ≡ e = cc in ap (λ (x : ScheduleError). Err x) is
same_error p e false h = let is : Bad (lines_so_far p + 1) 1 ≡ e = cc in ap (λ (x : ScheduleError). Err x) is

long_parts : (p : Progress) (w : List ℕ) (more : List (List ℕ)) (e : ScheduleError) → 4400 < length w → (let r : Result Progress ScheduleError = long_error p in r ≡ Err e) → read_parts p (w ∷ more) ≡ Err e
long_parts p [] more e long is = absurd (omega arith)
long_parts p (byte ∷ w) [] e long is = by_length p (byte ∷ w) (Err Unfinished) long ∙ same_error p e (lines_so_far p == most_lines) is
long_parts p (byte ∷ w) (n ∷ more) e long is = ap (λ (r : Result Progress ScheduleError). and_then r (λ q. read_parts q (n ∷ more))) (by_length p (byte ∷ w) (with_line p (byte ∷ w)) long ∙ is)

long_refused : (a : Option (List ℕ)) (p : Progress) (t : List ℕ) (e : ScheduleError) → BeginsLong a → 4400 < length t → next_line p t ≡ Err e → ReadsAs a p (Err e)
long_refused None p t e begins long bad = tt
long_refused (Some x) p t e begins long bad =
    let part = long_part 4401 x (omega (arith, begins.0)) begins.1 in
    ap (λ (l : List (List ℕ)). read_parts p l) part.2 ∙ long_parts p part.0 part.1 e (let more : 4401 ≤ length part.0 = part.3 in omega arith) (sym (by_length p t (with_line p t) long) ∙ bad)

-- a long line is rejected as another one, whatever its bytes are
pub refuses_long : (a : Option (List ℕ)) (p : Progress) (t : List ℕ) (e : ScheduleError) → BeginsLong a → 4400 < length t → next_line p t ≡ Err e → Refuses a p (of_schedule e)
refuses_long a p t (Bad line cause) begins long bad = long_refused a p t (Bad line cause) begins long bad
refuses_long a p t Lines begins long bad = long_refused a p t Lines begins long bad
refuses_long a p t Memory begins long bad = tt

-- what follows the last line feed
pub rest_read : (a b : Option (List ℕ)) (p : Progress) (v : List ℕ) → HasNoFeed v → Consumes a b v → IsAtEnd b → ReadsAs a p (ended p v)
rest_read None b p v clear took end = tt
rest_read (Some x) None p v clear took end = absurd took
rest_read (Some x) (Some y) p v clear took end =
    let is : x ≡ v = took ∙ ap (λ (l : List ℕ). v ++ l) end ∙ append-nil v in
    ap (λ (l : List ℕ). read_parts p (parts_of 10 l)) is ∙ ap (λ (l : List (List ℕ)). read_parts p l) (slice_split_none (λ b. b == 10) v (no_feeds v clear))

-- one step of reading after another
pub reads_on : (a b c : Option (List ℕ)) (p q r : Progress) → ReadsOn a p b q → ReadsOn b q c r → ReadsOn a p c r
reads_on None b c p q r first second = tt
reads_on (Some x) None c p q r first second = absurd first
reads_on (Some x) (Some y) None p q r first second = absurd second
reads_on (Some x) (Some y) (Some z) p q r first second = first ∙ second

pub reads_as : (a b : Option (List ℕ)) (p q : Progress) (r : Result Schedule ScheduleError) → ReadsOn a p b q → ReadsAs b q r → ReadsAs a p r
reads_as None b p q r first second = tt
reads_as (Some x) None p q r first second = absurd first
reads_as (Some x) (Some y) p q r first second = first ∙ second

pub refuses_later : (a b : Option (List ℕ)) (p q : Progress) (e : ReadError) → ReadsOn a p b q → Refuses b q e → Refuses a p e
refuses_later a b p q (read.Bad line cause) on bad = reads_as a b p q (Err (Bad line cause)) on bad
refuses_later a b p q read.Lines on bad = reads_as a b p q (Err Lines) on bad
refuses_later a b p q read.Failed on bad = tt
refuses_later a b p q read.Memory on bad = tt

pub reads_first : (a : Option (List ℕ)) (p : Progress) → ReadsOn a p (prepend_known [] a) p
reads_first None p = tt
reads_first (Some x) p = refl

pub at_end : (b c : Option (List ℕ)) (p : Progress) → Keeps b c → IsAtEnd c → ReadsAs b p (ended p [])
at_end None c p kept end = tt
at_end (Some y) None p kept end = absurd kept
at_end (Some y) (Some z) p kept end = ap (λ (l : List ℕ). read_parts p (parts_of 10 l)) (sym kept ∙ end)

full_line : (p : Progress) (w n : List ℕ) (more : List (List ℕ)) → (lines_so_far p == most_lines) ≡ true → read_parts p (w ∷ n ∷ more) ≡ Err Lines
full_line p w n more last = ap (λ (r : Result Progress ScheduleError). and_then r (λ q. read_parts q (n ∷ more))) (past_lines (lines_so_far p == most_lines) (at_next p (bounded w (with_line p w))) last)

full_rest : (p : Progress) (x : ℕ) (w : List ℕ) (more : List (List ℕ)) → (lines_so_far p == most_lines) ≡ true → read_parts p ((x ∷ w) ∷ more) ≡ Err Lines
full_rest p x w [] last = past_lines (lines_so_far p == most_lines) (at_next p (bounded (x ∷ w) (Err Unfinished))) last
full_rest p x w (n ∷ more) last = full_line p (x ∷ w) n more last

full : (p : Progress) (y : List ℕ) → (lines_so_far p == most_lines) ≡ true → y ≢ [] → read_parts p (parts_of 10 y) ≡ Err Lines
full p [] last some = absurd (some refl)
full p (x ∷ xs) last some = by_test (x == 10) refl (first_part xs)
  where
    by_test : (b : Bool) → (x == 10) ≡ b → (w : List ℕ) × (more : List (List ℕ)) × (parts_of 10 xs ≡ w ∷ more) → read_parts p (parts_of 10 (x ∷ xs)) ≡ Err Lines
    by_test true e rest = ap (λ (l : List (List ℕ)). read_parts p l) (slice_split-cons_yes (λ b. b == 10) x xs e ∙ ap (λ (l : List (List ℕ)). [] ∷ l) rest.2) ∙ full_line p [] rest.0 rest.1 last
    by_test false e rest = ap (λ (l : List (List ℕ)). read_parts p l) (slice_split-cons_no (λ b. b == 10) x xs e ∙ onto_some x rest.0 rest.1 (parts_of 10 xs) rest.2) ∙ full_rest p x rest.0 rest.1 last

pub too_many : (b : Option (List ℕ)) (p : Progress) → lines_so_far p ≡ 200000 → IfSome b (λ rest. rest ≢ []) → ReadsAs b p (Err Lines)
too_many None p count more = tt
too_many (Some y) p count more = full p y (last_is_tested (lines_so_far p) count) more

from_test : (b : Bool) (r : Result Progress ScheduleError) (q : Progress) → (if b then Err Lines else r) ≡ Ok q → r ≡ Ok q
from_test true r q h = absurd cc
from_test false r q h = h

one_more : (p q : Progress) (t : List ℕ) → with_line p t ≡ Ok q → lines_so_far q ≡ lines_so_far p + 1
one_more Blank q t h = from_bind (or_cause Heading (form_named t)) (λ form. Ok (Titled form)) q h (λ form e. let is : Titled form ≡ q = cc in sym (ap lines_so_far is))
one_more (Titled form) q t h = from_bind (peers_of (words_of t)) (λ peers. Ok (Counted form peers)) q h (λ peers e. let is : Counted form peers ≡ q = cc in sym (ap lines_so_far is))
one_more (Counted form peers) q t h = from_bind (opening_of peers (words_of t)) (λ view. Ok (Running form peers view [])) q h (λ view e. let is : Running form peers view [] ≡ q = cc in sym (ap lines_so_far is))
one_more (Running form peers view events) q t h = from_bind (event_of peers t) (λ event. if is_repeated events event then Err Repeated else Ok (Running form peers view (events ++ event ∷ []))) q h (λ event e. logged event (is_repeated events event) e)
  where
    logged : (event : ScheduleEvent) (b : Bool) → (let r : Result Progress Cause = if b then Err Repeated else Ok (Running form peers view (events ++ event ∷ [])) in r ≡ Ok q) → lines_so_far q ≡ 3 + length events + 1
    logged event true e = absurd cc
    logged event false e = let is : Running form peers view (events ++ event ∷ []) ≡ q = cc in sym (ap lines_so_far is) ∙ omega (arith, length-append events (event ∷ []))

pub line_counts : (p q : Progress) (t : List ℕ) → next_line p t ≡ Ok q → lines_so_far q ≡ lines_so_far p + 1
line_counts p q t ok = one_more p q t (short_enough (nat_lt line_limit (length t)) (with_line p t) q (at_line_ok (lines_so_far p + 1) (bounded t (with_line p t)) q (from_test (lines_so_far p == most_lines) (at_next p (bounded t (with_line p t))) q ok)))

-- a text ends as a schedule only after a line feed
pub ended_ok : (p : Progress) (rest : List ℕ) (s : Schedule) → ended p rest ≡ Ok s → ended p [] ≡ Ok s
ended_ok p [] s ok = ok
ended_ok p (byte ∷ rest) s ok = absurd (by_lines (lines_so_far p == most_lines) (nat_lt line_limit (length (byte ∷ rest))) ok)
  where
    by_lines : (b d : Bool) → (let inner : Result Schedule Cause = if d then Err TooLong else Err Unfinished in let r : Result Schedule ScheduleError = if b then Err Lines else at_next p inner in r ≡ Ok s) → ⊥
    by_lines true d h = cc
    by_lines false true h = cc
    by_lines false false h = cc
