-- What a book keeps of the strings that it took: each of them once.
use Rattle.std.proofs.Common.{◌≡◌, ◌≢◌, ◌+◌, ◌<◌, ◌≤◌, ◌||◌, ℕ, Bool, true, false, if◌then◌else◌, get_or, length, List, [], ◌∷◌, ◌++◌, Option, None, Some, Contains, inl, inr, refl, sym, ap, subst, ◌∙◌, arith}
use Rattle.std.specs.Bool.{Decides}
use Rattle.std.specs.List.{AllByRecursion, list_any}
use Rattle.std.proofs.lemmas.List.Elements.{recursion_from_All}
use Rattle.std.proofs.lemmas.List.Folds.{list_any_at}
use Rattle.std.proofs.lemmas.Slice.Eq.{bytes_eq-Decides}
use Rattle.md5.specs.Md5.{md5}
use Rattle.ens_base.specs.Lists.{same_bytes}
use Rattle.hash_book.proofs.Lookups.{total-push}
use Rattle.hash_book.specs.Hashing.{Book, Exceeds, ExceedsTold, Takes, empty_book, total}
use Rattle.world_spec.specs.Held.{Account, HasTaken, added, kept_after, once}
use Rattle.world_spec.specs.HeldLaws.{HasFilled, HasRejected}

-- a string that is new to the kept ones is none of them
none_is : (x : List ℕ) (kept : List (List ℕ)) → AllByRecursion (λ s. md5 s ≢ md5 x) kept → list_any (same_bytes x) kept ≡ false
none_is x [] new = refl
none_is x (y ∷ ys) new = by (none_is x ys new.1) (same_bytes x y) (bytes_eq-Decides x y)
  where
    by : list_any (same_bytes x) ys ≡ false → (eq : Bool) → Decides eq (x ≡ y) → (eq || list_any (same_bytes x) ys) ≡ false
    by none true d = absurd (new.0 (sym (ap md5 (d.0 refl))))
    by none false d = none

-- a string that is among the kept ones is found
one_is : (x : List ℕ) (kept : List (List ℕ)) → Contains kept x → list_any (same_bytes x) kept ≡ true
one_is x kept there = list_any_at (same_bytes x) kept there.0 x there.1 ((bytes_eq-Decides x (get_or kept there.0 x)).1 (sym there.2))

added_old : (x : List ℕ) (kept : List (List ℕ)) → list_any (same_bytes x) kept ≡ true → added kept x ≡ kept
added_old x kept is = rw is refl

added_new : (x : List ℕ) (kept : List (List ℕ)) → list_any (same_bytes x) kept ≡ false → added kept x ≡ kept ++ x ∷ []
added_new x kept is = rw is refl

-- the book that took these strings, all of which fit
module _ (limit : ℕ) where
  abbrev Keeps : List (List ℕ) → Option Book → Type 0
  Keeps strings now = (now ≡ Some (record { strings = strings; limit = limit })) × (total strings ≤ limit)

  -- what the book keeps of these strings, whatever it kept before
  abbrev Further : List (List ℕ) → Option Book → Type 0
  Further xs now = (kept : List (List ℕ)) → HasTaken xs (Some (record { strings = kept; limit = limit })) now → total kept ≤ limit → Keeps (kept_after kept xs) now

  pub keeps : (xs kept : List (List ℕ)) (now : Option Book) → HasTaken xs (Some (record { strings = kept; limit = limit })) now → total kept ≤ limit → Keeps (kept_after kept xs) now
  keeps [] kept now taken fits = (taken, fits)
  keeps (x ∷ xs) kept now taken fits = by (λ ys. keeps xs ys now) taken.0 taken.1 taken.2
    where
      further : Further xs now → (ys : List (List ℕ)) (next : Book) → next ≡ record { strings = ys; limit = limit } → added kept x ≡ ys → total ys ≤ limit → HasTaken xs (Some next) now → Keeps (kept_after (added kept x) xs) now
      further on ys next is same fit rest =
          subst (λ (k : List (List ℕ)). Keeps (kept_after k xs) now) (sym same) (on ys (subst (λ (b : Book). HasTaken xs (Some b) now) is rest) fit)

      by : Further xs now → (next : Option Book) → Takes x (Some (record { strings = kept; limit = limit })) next → HasTaken xs next now → Keeps (kept_after (added kept x) xs) now
      by on None takes rest = absurd takes
      by on (Some next) (inl old) rest = further on kept next old.1 (added_old x kept (one_is x kept old.0)) fits rest
      by on (Some next) (inr new) rest = further on (kept ++ x ∷ []) next new.1
          (added_new x kept (none_is x kept (recursion_from_All (λ s. md5 s ≢ md5 x) kept new.0.0)))
          (rw (total-push kept x) new.0.1) rest

-- more strings make no fewer bytes
never_less : (xs kept : List (List ℕ)) → total kept ≤ total (kept_after kept xs)
never_less [] kept = omega arith
never_less (x ∷ xs) kept = by (list_any (same_bytes x) kept) (never_less xs kept) (never_less xs (kept ++ x ∷ []))
  where
    by : (b : Bool) → total kept ≤ total (kept_after kept xs) → total (kept ++ x ∷ []) ≤ total (kept_after (kept ++ x ∷ []) xs)
        → total kept ≤ total (kept_after (if b then kept else kept ++ x ∷ []) xs)
    by true old new = old
    by false old new =
        let more : total (kept ++ x ∷ []) ≡ total kept + length x = total-push kept x in
        omega (arith, more, new)

after_both : (xs ys kept : List (List ℕ)) → kept_after kept (xs ++ ys) ≡ kept_after (kept_after kept xs) ys
after_both [] ys kept = refl
after_both (x ∷ xs) ys kept = after_both xs ys (added kept x)

-- a book that kept nothing keeps each string that it took once, and all of them fit
pub kept_once : (strings : List (List ℕ)) (limit : ℕ) (kept : Option Book) → HasTaken strings (Some (empty_book limit)) kept → (kept ≡ Some (record { strings = once strings; limit = limit })) × (total (once strings) ≤ limit)
kept_once strings limit kept taken = keeps limit strings [] kept taken (omega arith)

-- strings of which one did not fit into such a book do not fit into it all
pub filled_beyond : (strings : List (List ℕ)) (limit : ℕ) (first now : Account) → first.kept ≡ Some (empty_book limit) → HasFilled strings first now → limit < total (once strings)
filled_beyond strings limit first now is filled = omega (arith, over.1, size, more, at_all)
  where
    bytes : List ℕ
    bytes = filled.0

    rejected : HasRejected strings first bytes now
    rejected = filled.1

    before : List (List ℕ)
    before = once rejected.before

    over : Exceeds bytes (record { strings = before; limit = limit })
    over = subst (ExceedsTold bytes) (kept_once rejected.before limit now.kept (subst (λ (k : Option Book). HasTaken rejected.before k now.kept) is rejected.taken)).0 filled.3

    size : total (before ++ bytes ∷ []) ≡ total before + length bytes
    size = total-push before bytes

    more : total (before ++ bytes ∷ []) ≤ total (kept_after (before ++ bytes ∷ []) rejected.later)
    more = never_less rejected.later (before ++ bytes ∷ [])

    at_all : total (once strings) ≡ total (kept_after (before ++ bytes ∷ []) rejected.later)
    at_all = ap (λ (k : List (List ℕ)). total (once k)) rejected.are ∙ ap total (after_both rejected.before (bytes ∷ rejected.later) [])
        ∙ ap (λ (k : List (List ℕ)). total (kept_after k rejected.later)) (added_new bytes before (none_is bytes before (recursion_from_All (λ s. md5 s ≢ md5 bytes) before over.0)))
