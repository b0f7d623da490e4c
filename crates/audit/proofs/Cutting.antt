-- Where a source failed, and what it gave before.
use Rattle.std.proofs.Common.{◌≡◌, ℕ, List, [], ◌∷◌, ◌++◌, Option, None, Some, Result, Ok, Err, ◌+◌, ◌≤◌, length, refl, sym, ap, subst, ◌∙◌, append_assoc, length-append, arith}
use Rattle.std.specs.Io.KnownBytes.{Consumes, Keeps, prepend_known}
use Rattle.environment.specs.Lines.{HasNoFeed}
use Rattle.environment.specs.declared.lines.NextError.{NextError}
use Rattle.environment.specs.declared.lines.NextError.TheVariants as next
use Rattle.schedule_input.proofs.LineCutting.{kept_takes, with_pending}
use Rattle.lexemes.specs.Words.{parts_of}
use Rattle.history_record.specs.Reading.{Stage, and_then, first_stage, most_in, next_stage, read_parts}
use Rattle.history_record.specs.declared.error.AuditError.{AuditError}
use Rattle.history_record.specs.ShortRecords.{short_stage, stage_with_short_last}
use Rattle.history_record.proofs.Shortening.{last_stage, most_alike, next_alike}
use Rattle.audit.specs.Lines.{IsLine}
use Rattle.audit.specs.Reading.{HasTaken, WasCutOff, WasTakenTo, of_next}
use Rattle.audit.specs.declared.read.ReadError.{ReadError}
use Rattle.audit.specs.declared.read.ReadError.TheVariants as read
use Rattle.audit.proofs.Parts.{read_line}

-- one more line
pub taken_next : (source old new : Option (List ℕ)) (was pending : List ℕ) (s t : Stage) (v : List ℕ) → HasNoFeed v → next_stage s v ≡ Ok t → Consumes (prepend_known was old) (prepend_known pending new) (v ++ 10 ∷ [])
    → HasTaken source was old s → HasTaken source pending new t
taken_next None old new was pending s t v clear ok took h = tt
taken_next (Some bytes) None new was pending s t v clear ok took h = absurd h
taken_next (Some bytes) (Some x) None was pending s t v clear ok took h = absurd took
taken_next (Some bytes) (Some x) (Some y) was pending s t v clear ok took h =
    let line = v ++ 10 ∷ [] in
    let on = next_alike h.told s h.alike v t ok in
    record {
      lines = h.lines ++ line;
      told = on.0;
      are = h.are ∙ ap (λ (l : List ℕ). h.lines ++ l) took ∙ sym (append_assoc h.lines line (pending ++ y));
      good = λ rest. ap (λ (l : List ℕ). read_parts first_stage (parts_of 10 l)) (append_assoc h.lines line rest) ∙ h.good (line ++ rest) ∙ read_line h.told (line ++ rest) v rest clear refl ∙ ap (λ (r : Result Stage AuditError). and_then r (λ u. read_parts u (parts_of 10 rest))) on.1;
      alike = on.2;
    }

-- the last history was shortened
pub taken_short : (source left : Option (List ℕ)) (pending : List ℕ) (s t : Stage) → t ≡ stage_with_short_last s → HasTaken source pending left s → HasTaken source pending left t
taken_short None left pending s t is h = tt
taken_short (Some bytes) None pending s t is h = absurd h
taken_short (Some bytes) (Some x) pending s t is h = record { lines = h.lines; told = h.told; are = h.are; good = h.good; alike = h.alike ∙ sym (ap short_stage is ∙ last_stage s) }

-- an error of the source is passed on as one
pub next_failed : {T S : Type 0} (e : NextError) → ◌≡◌ {A = Result T ReadError} (Err (of_next e)) (Err read.Failed) → ◌≡◌ {A = Result S NextError} (Err e) (Err next.Failed)
next_failed next.Failed is = refl
next_failed next.Memory is = absurd (cc is)

-- the source failed where these bytes are pending
pub cut_off : (source old left : Option (List ℕ)) (was pending : List ℕ) (s : Stage) → HasTaken source was old s → Keeps (prepend_known was old) (prepend_known pending left) → IsLine (most_in s) pending → WasCutOff source left
cut_off None old left was pending s h kept line = tt
cut_off (Some bytes) None left was pending s h kept line = absurd h
cut_off (Some bytes) (Some x) None was pending s h kept line = absurd kept
cut_off (Some bytes) (Some x) (Some y) was pending s h kept line = record {
  lines = h.lines;
  more = pending;
  stage = h.told;
  are = h.are ∙ ap (λ (l : List ℕ). h.lines ++ l) (sym kept);
  good = h.good;
  undecided = subst (λ (n : ℕ). IsLine n pending) (sym (most_alike h.told s h.alike)) line;
}

-- ## How much was taken

taken_more : (source old left : Option (List ℕ)) (was more : List ℕ) (s : Stage) → Consumes (prepend_known was old) left more → length more ≤ most_in s + 1 → HasTaken source was old s → WasTakenTo source left
taken_more None old left was more s took few h = tt
taken_more (Some bytes) None left was more s took few h = absurd h
taken_more (Some bytes) (Some x) None was more s took few h = absurd took
taken_more (Some bytes) (Some x) (Some y) was more s took few h = record {
  lines = h.lines;
  more = more;
  stage = h.told;
  are = h.are ∙ ap (λ (l : List ℕ). h.lines ++ l) took;
  good = h.good;
  few = subst (λ (n : ℕ). length more ≤ n + 1) (sym (most_alike h.told s h.alike)) few;
}

-- a call took these bytes, of which there are so many, and left others pending
pub taken_to : (source old left : Option (List ℕ)) (was bytes pending : List ℕ) (s : Stage) (size : ℕ) → length bytes ≡ size → Consumes (prepend_known was old) (prepend_known pending left) bytes → size + length pending ≤ most_in s + 1 → HasTaken source was old s
    → WasTakenTo source left
taken_to source old left was bytes pending s size is took few h =
    taken_more source old left was (bytes ++ pending) s (with_pending (prepend_known was old) left bytes pending took) (omega (arith, few, is, length-append bytes pending)) h

-- a call that kept the bytes, and left these pending
pub taken_none : (source old left : Option (List ℕ)) (was pending : List ℕ) (s : Stage) → Keeps (prepend_known was old) (prepend_known pending left) → length pending ≤ most_in s + 1 → HasTaken source was old s → WasTakenTo source left
taken_none source old left was pending s kept few h = taken_more source old left was pending s (with_pending (prepend_known was old) left [] pending (kept_takes (prepend_known was old) (prepend_known pending left) kept)) few h

-- a source that was not read
pub none_taken : (source : Option (List ℕ)) → WasTakenTo source source
none_taken None = tt
none_taken (Some bytes) = record { lines = []; more = []; stage = first_stage; are = refl; good = λ rest. refl; few = omega arith }
