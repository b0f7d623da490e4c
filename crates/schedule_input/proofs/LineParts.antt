-- The lines of a source, taken one after another, are the parts into which its bytes are split.
use Rattle.std.proofs.Common.{◌≡◌, ◌≢◌, ℕ, zero, suc, ◌<◌, ◌≤◌, ◌==◌, Bool, true, false, List, [], ◌∷◌, ◌++◌, length, take, Option, None, Some, Result, Ok, Err, refl, sym, ap, subst, ◌∙◌, append_assoc, append-nil, arith}
use Rattle.std.specs.Prelude.{All, IfSome}
use Rattle.std.specs.List.{onto_first}
use Rattle.std.specs.Io.KnownBytes.{Consumes, Keeps, IsAtEnd, prepend_known}
use Rattle.std.proofs.lemmas.Bool.Decides.{nat_tests}
use Rattle.std.proofs.lemmas.List.Elements.{All-head, All-tail, All-weaker}
use Rattle.std.proofs.lemmas.List.Splits.{slice_split-cons_yes, slice_split-cons_no, slice_split_none, slice_split_at}
use Rattle.environment.specs.Lines.{HasNoFeed, BeginsLong}
use Rattle.lexemes.specs.Words.{parts_of}
use Rattle.schedule_input.specs.LineReading.{ReadsAs, ReadsOn, and_then, read_parts, read_text}

pub is_feed_of : (b : ℕ) → b ≢ 10 → (b == 10) ≡ false
is_feed_of b apart = grind (arith, nat_tests)

pub no_feeds : (xs : List ℕ) → HasNoFeed xs → All (λ b. (b == 10) ≡ false) xs
no_feeds xs clear = All-weaker (λ b. b ≢ 10) (λ b. (b == 10) ≡ false) is_feed_of xs clear

pub parts_line : (v y : List ℕ) → HasNoFeed v → parts_of 10 ((v ++ 10 ∷ []) ++ y) ≡ v ∷ parts_of 10 y
parts_line v y clear = ap (λ (l : List ℕ). parts_of 10 l) (append_assoc v (10 ∷ []) y) ∙ slice_split_at (λ b. b == 10) v 10 y (no_feeds v clear) refl

pub onto_some : (x : ℕ) (w : List ℕ) (more : List (List ℕ)) (parts : List (List ℕ)) → parts ≡ w ∷ more → onto_first x parts ≡ (x ∷ w) ∷ more
onto_some x w more parts e = ap (onto_first x) e

-- there is a first part
pub first_part : (xs : List ℕ) → (w : List ℕ) × (more : List (List ℕ)) × (parts_of 10 xs ≡ w ∷ more)
first_part [] = ([], [], refl)
first_part (x ∷ xs) = by_test (x == 10) refl (first_part xs)
  where
    by_test : (b : Bool) → (x == 10) ≡ b → (w : List ℕ) × (more : List (List ℕ)) × (parts_of 10 xs ≡ w ∷ more) → (w : List ℕ) × (more : List (List ℕ)) × (parts_of 10 (x ∷ xs) ≡ w ∷ more)
    by_test true e rest = ([], parts_of 10 xs, slice_split-cons_yes (λ b. b == 10) x xs e)
    by_test false e rest = (x ∷ rest.0, rest.1, slice_split-cons_no (λ b. b == 10) x xs e ∙ onto_some x rest.0 rest.1 (parts_of 10 xs) rest.2)

-- the first part is as long as the bytes before the first line feed
pub long_part : (n : ℕ) (xs : List ℕ) → n ≤ length xs → HasNoFeed (take n xs) → (w : List ℕ) × (more : List (List ℕ)) × (parts_of 10 xs ≡ w ∷ more) × (n ≤ length w)
long_part zero xs fits clear = let part = first_part xs in (part.0, part.1, part.2, omega arith)
long_part (suc n) [] fits clear = absurd (omega arith)
long_part (suc n) (x ∷ xs) fits clear =
    let rest = long_part n xs (omega arith) (All-tail (λ b. b ≢ 10) x (take n xs) clear) in
    let head : (x == 10) ≡ false = is_feed_of x (All-head (λ b. b ≢ 10) x (take n xs) clear) in
    (x ∷ rest.0, rest.1, slice_split-cons_no (λ b. b == 10) x xs head ∙ onto_some x rest.0 rest.1 (parts_of 10 xs) rest.2, (let more : n ≤ length rest.0 = rest.3 in omega arith))

module _ {S R E : Type 0} (next : S → List ℕ → Result S E) (end : S → List ℕ → Result R E) where
  -- a line in front of more lines
  read_more : (s : S) (v : List ℕ) (parts : List (List ℕ)) (w : List ℕ) (more : List (List ℕ)) → parts ≡ w ∷ more → read_parts next end s (v ∷ parts) ≡ and_then next end (next s v) (λ t. read_parts next end t parts)
  read_more s v parts w more e = let P : List (List ℕ) → Type 0 = λ l. read_parts next end s (v ∷ l) ≡ and_then next end (next s v) (λ t. read_parts next end t l) in subst P (sym e) refl

  pub read_line : (s : S) (x v y : List ℕ) → HasNoFeed v → x ≡ (v ++ 10 ∷ []) ++ y → read_text next end s x ≡ and_then next end (next s v) (λ t. read_text next end t y)
  read_line s x v y clear is =
      let part = first_part y in
      ap (λ (l : List ℕ). read_text next end s l) is ∙ ap (λ (l : List (List ℕ)). read_parts next end s l) (parts_line v y clear) ∙ read_more s v (parts_of 10 y) part.0 part.1 part.2

  pub line_taken : (a b : Option (List ℕ)) (s t : S) (v : List ℕ) → HasNoFeed v → Consumes a b (v ++ 10 ∷ []) → next s v ≡ Ok t → ReadsOn next end a s b t
  line_taken None b s t v clear took ok = tt
  line_taken (Some x) None s t v clear took ok = absurd took
  line_taken (Some x) (Some y) s t v clear took ok = read_line s x v y clear took ∙ ap (λ (r : Result S E). and_then next end r (λ u. read_text next end u y)) ok

  pub line_refused : (a b : Option (List ℕ)) (s : S) (v : List ℕ) (e : E) → HasNoFeed v → Consumes a b (v ++ 10 ∷ []) → next s v ≡ Err e → ReadsAs next end a s (Err e)
  line_refused None b s v e clear took bad = tt
  line_refused (Some x) None s v e clear took bad = absurd took
  line_refused (Some x) (Some y) s v e clear took bad = read_line s x v y clear took ∙ ap (λ (r : Result S E). and_then next end r (λ u. read_text next end u y)) bad

  -- a line that is too long is refused as every line is that long, whatever its bytes are, at its line feed
  -- and at the end
  long_parts : (s : S) (w : List ℕ) (more : List (List ℕ)) (e : E) → (next s w ≡ Err e) × (end s w ≡ Err e) → read_parts next end s (w ∷ more) ≡ Err e
  long_parts s w [] e bad = bad.1
  long_parts s w (n ∷ more) e bad = ap (λ (r : Result S E). and_then next end r (λ t. read_parts next end t (n ∷ more))) bad.0

  pub long_refused : (a : Option (List ℕ)) (s : S) (e : E) → BeginsLong a → ((w : List ℕ) → 4400 < length w → (next s w ≡ Err e) × (end s w ≡ Err e)) → ReadsAs next end a s (Err e)
  long_refused None s e begins bad = tt
  long_refused (Some x) s e begins bad =
      let part = long_part 4401 x (omega (arith, begins.0)) begins.1 in
      ap (λ (l : List (List ℕ)). read_parts next end s l) part.2 ∙ long_parts s part.0 part.1 e (bad part.0 (let more : 4401 ≤ length part.0 = part.3 in omega arith))

  -- what follows the last line feed
  pub rest_read : (a b : Option (List ℕ)) (s : S) (v : List ℕ) → HasNoFeed v → Consumes a b v → IsAtEnd b → ReadsAs next end a s (end s v)
  rest_read None b s v clear took stops = tt
  rest_read (Some x) None s v clear took stops = absurd took
  rest_read (Some x) (Some y) s v clear took stops =
      let is : x ≡ v = took ∙ ap (λ (l : List ℕ). v ++ l) stops ∙ append-nil v in
      ap (λ (l : List ℕ). read_text next end s l) is ∙ ap (λ (l : List (List ℕ)). read_parts next end s l) (slice_split_none (λ b. b == 10) v (no_feeds v clear))

  -- one step of reading after another
  pub reads_on : (a b c : Option (List ℕ)) (s t u : S) → ReadsOn next end a s b t → ReadsOn next end b t c u → ReadsOn next end a s c u
  reads_on None b c s t u first second = tt
  reads_on (Some x) None c s t u first second = absurd first
  reads_on (Some x) (Some y) None s t u first second = absurd second
  reads_on (Some x) (Some y) (Some z) s t u first second = first ∙ second

  pub reads_as : (a b : Option (List ℕ)) (s t : S) (r : Result R E) → ReadsOn next end a s b t → ReadsAs next end b t r → ReadsAs next end a s r
  reads_as None b s t r first second = tt
  reads_as (Some x) None s t r first second = absurd first
  reads_as (Some x) (Some y) s t r first second = first ∙ second

  pub reads_first : (a : Option (List ℕ)) (s : S) → ReadsOn next end a s (prepend_known [] a) s
  reads_first None s = tt
  reads_first (Some x) s = refl

  pub at_end : (b c : Option (List ℕ)) (s : S) → Keeps b c → IsAtEnd c → ReadsAs next end b s (end s [])
  at_end None c s kept stops = tt
  at_end (Some y) None s kept stops = absurd kept
  at_end (Some y) (Some z) s kept stops = ap (λ (l : List ℕ). read_text next end s l) (sym kept ∙ stops)

  -- one line more than a reader takes
  full_rest : (s : S) (x : ℕ) (w : List ℕ) (more : List (List ℕ)) (e : E) → ((v : List ℕ) → next s v ≡ Err e) → ((b : ℕ) (v : List ℕ) → end s (b ∷ v) ≡ Err e) → read_parts next end s ((x ∷ w) ∷ more) ≡ Err e
  full_rest s x w [] e line last = last x w
  full_rest s x w (n ∷ more) e line last = ap (λ (r : Result S E). and_then next end r (λ t. read_parts next end t (n ∷ more))) (line (x ∷ w))

  full : (s : S) (y : List ℕ) (e : E) → ((v : List ℕ) → next s v ≡ Err e) → ((b : ℕ) (v : List ℕ) → end s (b ∷ v) ≡ Err e) → y ≢ [] → read_text next end s y ≡ Err e
  full s [] e line last some = absurd (some refl)
  full s (x ∷ xs) e line last some = by_test (x == 10) refl (first_part xs)
    where
      by_test : (b : Bool) → (x == 10) ≡ b → (w : List ℕ) × (more : List (List ℕ)) × (parts_of 10 xs ≡ w ∷ more) → read_parts next end s (parts_of 10 (x ∷ xs)) ≡ Err e
      by_test true is rest = ap (λ (l : List (List ℕ)). read_parts next end s l) (slice_split-cons_yes (λ b. b == 10) x xs is ∙ ap (λ (l : List (List ℕ)). [] ∷ l) rest.2) ∙ ap (λ (r : Result S E). and_then next end r (λ t. read_parts next end t (rest.0 ∷ rest.1))) (line [])
      by_test false is rest = ap (λ (l : List (List ℕ)). read_parts next end s l) (slice_split-cons_no (λ b. b == 10) x xs is ∙ onto_some x rest.0 rest.1 (parts_of 10 xs) rest.2) ∙ full_rest s x rest.0 rest.1 e line last

  pub too_many : (b : Option (List ℕ)) (s : S) (e : E) → ((v : List ℕ) → next s v ≡ Err e) → ((c : ℕ) (v : List ℕ) → end s (c ∷ v) ≡ Err e) → IfSome b (λ rest. rest ≢ []) → ReadsAs next end b s (Err e)
  too_many None s e line last more = tt
  too_many (Some y) s e line last more = full s y e line last more

-- if nothing is pending or left, nothing is left
pub ended_left : (pending : List ℕ) (left : Option (List ℕ)) → IsAtEnd (prepend_known pending left) → IsAtEnd left
ended_left pending None h = tt
ended_left [] (Some y) h = h
ended_left (x ∷ pending) (Some y) h = let never : x ∷ (pending ++ y) ≡ [] = h in absurd cc
