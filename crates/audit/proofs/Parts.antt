-- The lines of a source, taken one after another, are the parts into which its bytes are split.
use Rattle.std.proofs.Common.{◌≡◌, ℕ, ◌+◌, ◌<◌, ◌≤◌, ◌==◌, List, [], ◌∷◌, ◌++◌, ◌^◌, length, Option, None, Some, Result, Ok, Err, refl, sym, ap, subst, ◌∙◌, append-nil, arith, lit<}
use Rattle.std.specs.Io.KnownBytes.{Consumes, IsAtEnd, prepend_known}
use Rattle.std.proofs.lemmas.List.Splits.{slice_split_none}
use Rattle.environment.specs.Lines.{HasNoFeed}
use Rattle.lexemes.specs.Words.{parts_of}
use Rattle.history_record.specs.Reading.{Stage, Before, Behind, Stops, and_then, end_stage, most_in, next_stage, read_parts}
use Rattle.history_record.specs.declared.error.AuditError.{AuditError}
use Rattle.history_record.specs.declared.error.AuditError.TheVariants.{Bad, Lines, Memory}
use Rattle.history_record.specs.declared.record.Record.{Record}
use Rattle.audit.specs.Lines.{BeginsLong}
use Rattle.audit.specs.Reading.{ReadsAs, ReadsOn, Refuses, of_audit}
use Rattle.audit.specs.declared.read.ReadError.{ReadError}
use Rattle.audit.specs.declared.read.ReadError.TheVariants as read
use Rattle.schedule_input.proofs.LineParts.{no_feeds, parts_line, first_part, long_part}

-- a line in front of more lines
read_more : (s : Stage) (v : List ℕ) (parts : List (List ℕ)) (w : List ℕ) (more : List (List ℕ)) → parts ≡ w ∷ more → read_parts s (v ∷ parts) ≡ and_then (next_stage s v) (λ t. read_parts t parts)
read_more s v parts w more e = let P : List (List ℕ) → Type 0 = λ l. read_parts s (v ∷ l) ≡ and_then (next_stage s v) (λ t. read_parts t l) in subst P (sym e) refl

pub read_line : (s : Stage) (x v y : List ℕ) → HasNoFeed v → x ≡ (v ++ 10 ∷ []) ++ y → read_parts s (parts_of 10 x) ≡ and_then (next_stage s v) (λ t. read_parts t (parts_of 10 y))
read_line s x v y clear is =
    let part = first_part y in
    ap (λ (l : List ℕ). read_parts s (parts_of 10 l)) is ∙ ap (λ (l : List (List ℕ)). read_parts s l) (parts_line v y clear) ∙ read_more s v (parts_of 10 y) part.0 part.1 part.2

pub line_taken : (a b : Option (List ℕ)) (s t : Stage) (v : List ℕ) → HasNoFeed v → Consumes a b (v ++ 10 ∷ []) → next_stage s v ≡ Ok t → ReadsOn a s b t
line_taken None b s t v clear took ok = tt
line_taken (Some x) None s t v clear took ok = absurd took
line_taken (Some x) (Some y) s t v clear took ok = read_line s x v y clear took ∙ ap (λ (r : Result Stage AuditError). and_then r (λ u. read_parts u (parts_of 10 y))) ok

line_refused : (a b : Option (List ℕ)) (s : Stage) (v : List ℕ) (e : AuditError) → HasNoFeed v → Consumes a b (v ++ 10 ∷ []) → next_stage s v ≡ Err e → ReadsAs a s (Err e)
line_refused None b s v e clear took bad = tt
line_refused (Some x) None s v e clear took bad = absurd took
line_refused (Some x) (Some y) s v e clear took bad = read_line s x v y clear took ∙ ap (λ (r : Result Stage AuditError). and_then r (λ u. read_parts u (parts_of 10 y))) bad

pub refuses_line : (a b : Option (List ℕ)) (s : Stage) (v : List ℕ) (e : AuditError) → HasNoFeed v → Consumes a b (v ++ 10 ∷ []) → Stops (next_stage s v) e → Refuses a s (of_audit e)
refuses_line a b s v (Bad line cause) clear took bad = line_refused a b s v (Bad line cause) clear took bad
refuses_line a b s v Lines clear took bad = line_refused a b s v Lines clear took bad
refuses_line a b s v Memory clear took bad = tt

-- a line has far fewer bytes than 2 ^ 24
pub most_few : (s : Stage) → most_in s < 2 ^ 24
most_few (Before p) = lit< tt
most_few (Behind h) = lit< tt

-- a line that is too long, whatever its bytes are and whether a line feed follows it
abbrev IsRefusedLong : Stage → AuditError → Type 0
IsRefusedLong s e = (t : List ℕ) → most_in s < length t → (next_stage s t ≡ Err e) × (end_stage s t ≡ Err e)

long_parts : (s : Stage) (w : List ℕ) (more : List (List ℕ)) (e : AuditError) → most_in s < length w → IsRefusedLong s e → read_parts s (w ∷ more) ≡ Err e
long_parts s w [] e long is = (is w long).1
long_parts s w (n ∷ more) e long is = ap (λ (r : Result Stage AuditError). and_then r (λ t. read_parts t (n ∷ more))) (is w long).0

long_refused : (a : Option (List ℕ)) (s : Stage) (e : AuditError) → BeginsLong (most_in s) a → IsRefusedLong s e → ReadsAs a s (Err e)
long_refused None s e begins is = tt
long_refused (Some x) s e begins is =
    let part = long_part (most_in s + 1) x (omega (arith, begins.0)) begins.1 in
    let long : most_in s + 1 ≤ length part.0 = part.3 in
    ap (λ (l : List (List ℕ)). read_parts s l) part.2 ∙ long_parts s part.0 part.1 e (omega (arith, long)) is

pub refuses_long : (a : Option (List ℕ)) (s : Stage) (e : AuditError) → BeginsLong (most_in s) a → IsRefusedLong s e → Refuses a s (of_audit e)
refuses_long a s (Bad line cause) begins is = long_refused a s (Bad line cause) begins is
refuses_long a s Lines begins is = long_refused a s Lines begins is
refuses_long a s Memory begins is = tt

-- what follows the last line feed
pub rest_read : (a b : Option (List ℕ)) (s : Stage) (v : List ℕ) → HasNoFeed v → Consumes a b v → IsAtEnd b → ReadsAs a s (end_stage s v)
rest_read None b s v clear took end = tt
rest_read (Some x) None s v clear took end = absurd took
rest_read (Some x) (Some y) s v clear took end =
    let is : x ≡ v = took ∙ ap (λ (l : List ℕ). v ++ l) end ∙ append-nil v in
    ap (λ (l : List ℕ). read_parts s (parts_of 10 l)) is ∙ ap (λ (l : List (List ℕ)). read_parts s l) (slice_split_none (λ b. b == 10) v (no_feeds v clear))

-- one step of reading after another
pub reads_on : (a b c : Option (List ℕ)) (s t u : Stage) → ReadsOn a s b t → ReadsOn b t c u → ReadsOn a s c u
reads_on None b c s t u first second = tt
reads_on (Some x) None c s t u first second = absurd first
reads_on (Some x) (Some y) None s t u first second = absurd second
reads_on (Some x) (Some y) (Some z) s t u first second = first ∙ second

pub reads_as : (a b : Option (List ℕ)) (s t : Stage) (r : Result Record AuditError) → ReadsOn a s b t → ReadsAs b t r → ReadsAs a s r
reads_as None b s t r first second = tt
reads_as (Some x) None s t r first second = absurd first
reads_as (Some x) (Some y) s t r first second = first ∙ second

pub refuses_later : (a b : Option (List ℕ)) (s t : Stage) (e : ReadError) → ReadsOn a s b t → Refuses b t e → Refuses a s e
refuses_later a b s t (read.Bad line cause) on bad = reads_as a b s t (Err (Bad line cause)) on bad
refuses_later a b s t read.Lines on bad = reads_as a b s t (Err Lines) on bad
refuses_later a b s t read.Failed on bad = tt
refuses_later a b s t read.Memory on bad = tt

pub reads_first : (a : Option (List ℕ)) (s : Stage) → ReadsOn a s (prepend_known [] a) s
reads_first None s = tt
reads_first (Some x) s = refl
