-- How much of a source was taken by a reader that counts its lines.
use Rattle.std.proofs.Common.{◌≡◌, ◌≤◌, ◌<◌, ◌+◌, ◌*◌, ◌⊎◌, ℕ, List, [], ◌∷◌, ◌++◌, length, Option, None, Some, Result, Ok, inl, inr, refl, sym, ap, subst, ◌∙◌, append_assoc, length-append, arith}
use Rattle.std.specs.Io.KnownBytes.{Consumes, Keeps, prepend_known}
use Rattle.std.proofs.lemmas.Bool.{cases_order}
use Rattle.environment.specs.Lines.{HasNoFeed, IsLine}
use Rattle.schedule_input.specs.LineReading.{HasTaken}
use Rattle.schedule_input.proofs.LineCutting.{come_next, kept_takes, taken_next, with_pending}
use Rattle.schedule_input.specs.Counting.{AreFew, AreTaken, AreUndecided, Gave, HasCounted, IsReached, WasCutOff, WasTakenTo, most_taken}

-- a call that kept the bytes
kept_pending : (old left : Option (List ℕ)) (pending : List ℕ) → Keeps old (prepend_known pending left) → Consumes old left pending
kept_pending old left pending kept = with_pending old left [] pending (kept_takes old (prepend_known pending left) kept)

-- a call read no byte, or there are few bytes that it took or left pending
few_more : (old left : Option (List ℕ)) (was more x y : List ℕ) (most : ℕ) → old ≡ Some x → left ≡ Some y → was ++ x ≡ more ++ y → (left ≡ old) ⊎ (length more ≤ most) → (length more ≡ length was) ⊎ (length more ≤ most)
few_more old left was more x y most a b split (inr few) = inr few
few_more old left was more x y most a b split (inl same) =
    let none : x ≡ y = cc (a, b, same) in
    inl (omega (arith, simp length-append at (ap (λ (l : List ℕ). length l) split), ap (λ (l : List ℕ). length l) none))

with_size : (A : Type 0) (bytes pending : List ℕ) (size : ℕ) → length bytes ≡ size → A ⊎ (size + length pending ≤ 4401) → A ⊎ (length (bytes ++ pending) ≤ 4401)
with_size A bytes pending size is (inl same) = inl same
with_size A bytes pending size is (inr few) = inr (omega (arith, length-append bytes pending))

module _ {S R E : Type 0} (next : S → List ℕ → Result S E) (end : S → List ℕ → Result R E) (first : S) where
  -- one more line
  pub reached_next : (s t : S) (v : List ℕ) → HasNoFeed v → next s v ≡ Ok t → IsReached next end first s → IsReached next end first t
  reached_next s t v clear ok old = (old.0 ++ (v ++ 10 ∷ []), come_next next end first old.0 v s t clear ok old.1)

  -- what a source gave, where a call took these bytes beyond the lines and none of them is pending
  gave : (AreFit : List ℕ → List ℕ → S → Type 0) (source old left : Option (List ℕ)) (was more : List ℕ) (s : S) → Consumes (prepend_known was old) left more
      → ((bytes x y lines : List ℕ) → source ≡ Some bytes → old ≡ Some x → left ≡ Some y → bytes ≡ lines ++ (was ++ x) → was ++ x ≡ more ++ y → AreFit lines more s) → HasTaken next end first source was old s → Gave next end first AreFit source left
  gave AreFit None old left was more s took fit h = tt
  gave AreFit (Some bytes) None left was more s took fit h = absurd h
  gave AreFit (Some bytes) (Some x) None was more s took fit h = absurd took
  gave AreFit (Some bytes) (Some x) (Some y) was more s took fit h = record {
    lines = h.lines;
    more = more;
    s = s;
    are = h.are ∙ ap (λ (l : List ℕ). h.lines ++ l) took;
    good = h.good;
    fit = fit bytes x y h.lines refl refl refl h.are took;
  }

module _ {S R E : Type 0} (next : S → List ℕ → Result S E) (end : S → List ℕ → Result R E) (first : S) (count : S → ℕ) where
  -- one more line
  few_next : (source old new : Option (List ℕ)) (was pending : List ℕ) (s t : S) (v : List ℕ) → count t ≡ count s + 1 → Consumes (prepend_known was old) (prepend_known pending new) (v ++ 10 ∷ [])
      → (new ≡ old) ⊎ (length v + 1 + length pending ≤ 4401) → AreFew count source was old s → AreFew count source pending new t
  few_next None old new was pending s t v more took few h = tt
  few_next (Some bytes) None new was pending s t v more took few h = absurd h
  few_next (Some bytes) (Some x) None was pending s t v more took few h = absurd took
  few_next (Some bytes) (Some x) (Some y) was pending s t v more took few h = by few
    where
      sizes : length was + length x ≡ length v + 1 + (length pending + length y)
      sizes = simp length-append at (ap (λ (l : List ℕ). length l) took)

      by : (Some y ≡ Some x) ⊎ (length v + 1 + length pending ≤ 4401) → (length pending ≤ 4401) × (length bytes ≤ 4401 * count t + length y)
      by (inl same) = let none : y ≡ x = cc in let size : length y ≡ length x = ap (λ (l : List ℕ). length l) none in (omega (arith, h.0, sizes, size), omega (arith, h.0, h.1, sizes, size, more))
      by (inr less) = (omega arith, omega (arith, h.0, h.1, sizes, more))

  pub counted_next : (source old new : Option (List ℕ)) (was pending : List ℕ) (s t : S) (v : List ℕ) → HasNoFeed v → next s v ≡ Ok t → count t ≡ count s + 1 → Consumes (prepend_known was old) (prepend_known pending new) (v ++ 10 ∷ [])
      → (new ≡ old) ⊎ (length v + 1 + length pending ≤ 4401) → HasCounted next end first count source was old s → HasCounted next end first count source pending new t
  counted_next source old new was pending s t v clear ok more took few h =
      (taken_next next end first source old new was pending s t v clear ok took h.0, few_next source old new was pending s t v more took few h.1)

  -- what a source gave, where it gave few bytes
  gave_few : (AreFit : List ℕ → List ℕ → S → Type 0) (source old left : Option (List ℕ)) (was more : List ℕ) (s : S) → Consumes (prepend_known was old) left more → HasCounted next end first count source was old s
      → ((lines x y : List ℕ) → old ≡ Some x → left ≡ Some y → was ++ x ≡ more ++ y → length was ≤ 4401 → length lines + length was ≤ 4401 * count s → AreFit lines more s) → Gave next end first AreFit source left
  gave_few AreFit source old left was more s took h fit =
      gave next end first AreFit source old left was more s took (λ bytes x y lines a b c are split.
      let known : AreFew count (Some bytes) was old s = subst (λ (o : Option (List ℕ)). AreFew count o was old s) a h.1 in
      let sizes : (length was ≤ 4401) × (length bytes ≤ 4401 * count s + length x) = subst (λ (o : Option (List ℕ)). AreFew count (Some bytes) was o s) b known in
      fit lines x y b c split sizes.0 (omega (arith, sizes.1, simp length-append at (ap (λ (l : List ℕ). length l) are)))) h.0

  -- a source that was not read
  pub taken_none : (source : Option (List ℕ)) → count first ≤ 200000 → WasTakenTo next end first count source source
  taken_none None few = tt
  taken_none (Some bytes) few = record { lines = []; more = []; s = first; are = refl; good = λ rest. refl; fit = record { few = few; short = omega arith; bound = omega arith } }

  -- however a call ended that was to read the next line
  pub taken_to : (source old left : Option (List ℕ)) (was bytes pending : List ℕ) (s : S) (size : ℕ) → length bytes ≡ size → Consumes (prepend_known was old) (prepend_known pending left) bytes
      → (left ≡ old) ⊎ (size + length pending ≤ 4401) → count s < 200000 → HasCounted next end first count source was old s → WasTakenTo next end first count source left
  taken_to source old left was bytes pending s size is took few less h =
      gave_few (AreTaken count) source old left was (bytes ++ pending) s (with_pending (prepend_known was old) left bytes pending took) h (λ lines x y a b split short given.
      by lines short given (few_more old left was (bytes ++ pending) x y 4401 a b split (with_size (left ≡ old) bytes pending size is few)))
    where
      by : (lines : List ℕ) → length was ≤ 4401 → length lines + length was ≤ 4401 * count s → (length (bytes ++ pending) ≡ length was) ⊎ (length (bytes ++ pending) ≤ 4401) → AreTaken count lines (bytes ++ pending) s
      by lines short given (inl same) = record { few = omega arith; short = omega arith; bound = omega (arith, less, given, same) }
      by lines short given (inr more) = record { few = omega arith; short = more; bound = omega (arith, less, given, more) }

  -- the same of the call that looks for the end after the last line
  pub taken_last : (source old left : Option (List ℕ)) (was pending : List ℕ) (s : S) → Keeps (prepend_known was old) (prepend_known pending left) → (left ≡ old) ⊎ ((was ≡ []) × (length pending ≤ 1)) → count s ≤ 200000
      → HasCounted next end first count source was old s → WasTakenTo next end first count source left
  taken_last source old left was pending s kept few less h =
      gave_few (AreTaken count) source old left was pending s (kept_pending (prepend_known was old) left pending kept) h (λ lines x y a b split short given. by lines short given (few_more old left was pending x y 1 a b split (few_after few)))
    where
      few_after : (left ≡ old) ⊎ ((was ≡ []) × (length pending ≤ 1)) → (left ≡ old) ⊎ (length pending ≤ 1)
      few_after (inl same) = inl same
      few_after (inr none) = inr none.1

      by : (lines : List ℕ) → length was ≤ 4401 → length lines + length was ≤ 4401 * count s → (length pending ≡ length was) ⊎ (length pending ≤ 1) → AreTaken count lines pending s
      by lines short given (inl same) = record { few = less; short = omega arith; bound = omega (arith, less, given, same) }
      by lines short given (inr more) = record { few = less; short = omega arith; bound = omega (arith, less, given, more) }

  -- the source failed where these bytes are pending
  pub cut_short : (source old left : Option (List ℕ)) (was pending : List ℕ) (s : S) → HasCounted next end first count source was old s → Keeps (prepend_known was old) (prepend_known pending left) → IsLine pending → count s ≤ 200000 → (count s ≡ 200000 → pending ≡ [])
      → WasCutOff next end first count source left
  cut_short source old left was pending s h kept line less last =
      gave_few (AreUndecided count) source old left was pending s (kept_pending (prepend_known was old) left pending kept) h (λ lines x y a b split short given. record {
        taken = record { few = less; short = omega (arith, line.short); bound = by lines given (cases_order (count s) 200000) };
        undecided = line;
        last = last;
      })
    where
      by : (lines : List ℕ) → length lines + length was ≤ 4401 * count s → (count s ≡ 200000) ⊎ ((count s < 200000) ⊎ (200000 < count s)) → length lines + length pending ≤ most_taken
      by lines given (inl full) = omega (arith, given, ap (λ (l : List ℕ). length l) (last full))
      by lines given (inr (inl below)) = omega (arith, given, line.short)
      by lines given (inr (inr more)) = absurd (omega (arith, less))
