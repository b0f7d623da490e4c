-- How much of a source was taken, and where it failed.
use Rattle.std.proofs.Common.{◌≡◌, ◌≤◌, ◌<◌, ◌+◌, ◌⊎◌, ℕ, List, [], ◌∷◌, ◌++◌, length, Option, None, Some, Result, Ok, Err, inl, inr, refl, sym, ap, ◌∙◌, append_assoc, length-append, arith}
use Rattle.std.specs.Io.KnownBytes.{Consumes, Keeps, prepend_known}
use Rattle.std.proofs.lemmas.Bool.{cases_order}
use Rattle.environment.specs.Lines.{HasNoFeed, IsLine}
use Rattle.environment.specs.declared.lines.NextError.{NextError}
use Rattle.environment.specs.declared.lines.NextError.TheVariants as next
use Rattle.schedule_input.specs.Counting.{most_taken}
use Rattle.lexemes.specs.Words.{parts_of}
use Rattle.schedule_text.specs.Progress.{Progress, Blank, lines_so_far}
use Rattle.schedule_text.specs.Reading.{and_then, next_line, read_parts}
use Rattle.schedule_text.specs.declared.error.ScheduleError.{ScheduleError}
use Rattle.schedule_input.specs.declared.read.ReadError.{ReadError}
use Rattle.schedule_input.specs.declared.read.ReadError.TheVariants as read
use Rattle.schedule_input.specs.Reading.{HasTaken, WasCutOff, WasTakenTo, of_next}
use Rattle.schedule_input.proofs.Parts.{line_counts, read_line}

-- the bytes that a call consumed, and those that are pending after it
consumed : (was old bytes pending left : List ℕ) → was ++ old ≡ bytes ++ (pending ++ left) → length was ≤ 4401 → (Some left ≡ Some old) ⊎ (length bytes + length pending ≤ 4401) → length bytes + length pending ≤ 4401
consumed was old bytes pending left took short (inr few) = few
consumed was old bytes pending left took short (inl same) =
    let none : left ≡ old = cc in
    omega (arith, simp length-append at (ap (λ (l : List ℕ). length l) took), ap (λ (l : List ℕ). length l) none)

-- one more line
pub taken_next : (source old new : Option (List ℕ)) (was pending : List ℕ) (p q : Progress) (v : List ℕ) → HasNoFeed v → next_line p v ≡ Ok q → Consumes (prepend_known was old) (prepend_known pending new) (v ++ 10 ∷ [])
    → (new ≡ old) ⊎ (length v + 1 + length pending ≤ 4401) → HasTaken source was old p → HasTaken source pending new q
taken_next None old new was pending p q v clear ok took few h = tt
taken_next (Some bytes) None new was pending p q v clear ok took few h = absurd h
taken_next (Some bytes) (Some x) None was pending p q v clear ok took few h = absurd took
taken_next (Some bytes) (Some x) (Some y) was pending p q v clear ok took few h =
    let line = v ++ 10 ∷ [] in
    let size : length line ≡ length v + 1 = length-append v (10 ∷ []) in
    let more : length line + length pending ≤ 4401 = consumed was x line pending y took h.short (rw size few) in
    let count : lines_so_far q ≡ lines_so_far p + 1 = line_counts p q v ok in
    record {
      lines = h.lines ++ line;
      are = h.are ∙ ap (λ (l : List ℕ). h.lines ++ l) took ∙ sym (append_assoc h.lines line (pending ++ y));
      good = λ rest. ap (λ (l : List ℕ). read_parts Blank (parts_of 10 l)) (append_assoc h.lines line rest) ∙ h.good (line ++ rest) ∙ read_line p (line ++ rest) v rest clear refl ∙ ap (λ (r : Result Progress ScheduleError). and_then r (λ s. read_parts s (parts_of 10 rest))) ok;
      short = omega arith;
      few = omega (arith, length-append h.lines line);
    }

-- however a call ended that was to read the next line
pub taken_to : (source old left : Option (List ℕ)) (was bytes pending : List ℕ) (p : Progress) (size : ℕ) → length bytes ≡ size → Consumes (prepend_known was old) (prepend_known pending left) bytes
    → (left ≡ old) ⊎ (size + length pending ≤ 4401) → lines_so_far p < 200000 → HasTaken source was old p → WasTakenTo source left
taken_to None old left was bytes pending p size is took few more h = tt
taken_to (Some all) None left was bytes pending p size is took few more h = absurd h
taken_to (Some all) (Some x) None was bytes pending p size is took few more h = absurd took
taken_to (Some all) (Some x) (Some y) was bytes pending p size is took few more h =
    let short : length bytes + length pending ≤ 4401 = consumed was x bytes pending y took h.short (rw is few) in
    record {
      lines = h.lines;
      more = bytes ++ pending;
      p = p;
      are = h.are ∙ ap (λ (l : List ℕ). h.lines ++ l) (took ∙ sym (append_assoc bytes pending y));
      good = h.good;
      few = omega arith;
      short = omega (arith, length-append bytes pending);
      bound = omega (arith, h.few, length-append bytes pending);
    }

-- the same of the call that looks for the end after the last line
pub taken_last : (source old left : Option (List ℕ)) (was pending : List ℕ) (p : Progress) → Keeps (prepend_known was old) (prepend_known pending left) → (left ≡ old) ⊎ ((was ≡ []) × (length pending ≤ 1)) → lines_so_far p ≤ 200000
    → HasTaken source was old p → WasTakenTo source left
taken_last None old left was pending p kept few more h = tt
taken_last (Some all) None left was pending p kept few more h = absurd h
taken_last (Some all) (Some x) None was pending p kept few more h = absurd kept
taken_last (Some all) (Some x) (Some y) was pending p kept few more h = record {
  lines = h.lines;
  more = pending;
  p = p;
  are = h.are ∙ ap (λ (l : List ℕ). h.lines ++ l) (sym kept);
  good = h.good;
  few = more;
  short = size.0;
  bound = omega (arith, size.1, h.few);
}
  where
    by : (Some y ≡ Some x) ⊎ ((was ≡ []) × (length pending ≤ 1)) → (length pending ≤ 4401) × (length pending ≤ length was + 1)
    by (inl same) =
        let none : y ≡ x = cc in
        let size : length pending ≡ length was = omega (arith, simp length-append at (ap (λ (l : List ℕ). length l) kept), ap (λ (l : List ℕ). length l) none) in
        (omega (arith, h.short), omega arith)
    by (inr none) = (omega (arith, none.1), omega (arith, none.1))

    size : (length pending ≤ 4401) × (length pending ≤ length was + 1)
    size = by few

-- an error of the source is passed on as one
pub next_failed : {T S : Type 0} (e : NextError) → ◌≡◌ {A = Result T ReadError} (Err (of_next e)) (Err read.Failed) → ◌≡◌ {A = Result S NextError} (Err e) (Err next.Failed)
next_failed next.Failed is = refl
next_failed next.Memory is = absurd (cc is)

-- the source failed where these bytes are pending
pub cut_off : (source old left : Option (List ℕ)) (was pending : List ℕ) (p : Progress) → HasTaken source was old p → Keeps (prepend_known was old) (prepend_known pending left) → IsLine pending → lines_so_far p ≤ 200000 → (lines_so_far p ≡ 200000 → pending ≡ []) → WasCutOff source left
cut_off None old left was pending p h kept line few last = tt
cut_off (Some bytes) None left was pending p h kept line few last = absurd h
cut_off (Some bytes) (Some x) None was pending p h kept line few last = absurd kept
cut_off (Some bytes) (Some x) (Some y) was pending p h kept line few last = record {
  taken = record {
    lines = h.lines;
    more = pending;
    p = p;
    are = h.are ∙ ap (λ (l : List ℕ). h.lines ++ l) (sym kept);
    good = h.good;
    few = few;
    short = omega (arith, line.short);
    bound = by (cases_order (lines_so_far p) 200000);
  };
  undecided = line;
  last = last;
}
  where
    by : (lines_so_far p ≡ 200000) ⊎ ((lines_so_far p < 200000) ⊎ (200000 < lines_so_far p)) → length h.lines + length pending ≤ most_taken
    by (inl full) = omega (arith, h.few, ap (λ (l : List ℕ). length l) (last full))
    by (inr (inl less)) = omega (arith, h.few, line.short)
    by (inr (inr more)) = absurd (omega (arith, few))
