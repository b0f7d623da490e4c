-- So many words, none of them empty.
use Rattle.std.proofs.Common.{◌≡◌, ℕ, ◌<◌, ◌==◌, Bool, true, false, if◌then◌else◌, List, [], ◌∷◌, length, Ok, Err, refl, arith}
use Rattle.std.proofs.lemmas.Bool.Decides.{nat_tests}
use Rattle.lexemes.proofs.Results.{ok_same}
use Rattle.lexemes.specs.declared.cause.Cause.TheVariants.{Words}
use Rattle.schedule_text.specs.Arguments.{has_empty, none_of, one_of, two_of, three_of, four_of, some_of, first_of}

full : (word : List ℕ) → 0 < length word → (length word == 0) ≡ false
full word h = grind (arith, nat_tests)

unless_ok : {A : Type 0} (b : Bool) (x y : A) → (if b then Err Words else Ok x) ≡ Ok y → x ≡ y
unless_ok true x y h = cc h
unless_ok false x y h = ok_same h

pub none_of-ok : (words : List (List ℕ)) (x : Unit {0}) → none_of words ≡ Ok x → words ≡ []
none_of-ok [] x h = refl
none_of-ok (a ∷ more) x h = cc h

pub one_of-ok : (words : List (List ℕ)) (x : List ℕ) → one_of words ≡ Ok x → words ≡ x ∷ []
one_of-ok [] x h = cc h
one_of-ok (a ∷ []) x h = let same = unless_ok _ a x h in λ i. same i ∷ []
one_of-ok (a ∷ b ∷ more) x h = cc h

pub two_of-ok : (words : List (List ℕ)) (x : List ℕ × List ℕ) → two_of words ≡ Ok x → words ≡ x.0 ∷ x.1 ∷ []
two_of-ok [] x h = cc h
two_of-ok (a ∷ []) x h = cc h
two_of-ok (a ∷ b ∷ []) x h = let same = unless_ok {A = List ℕ × List ℕ} _ (a, b) x h in λ i. (same i).0 ∷ (same i).1 ∷ []
two_of-ok (a ∷ b ∷ c ∷ more) x h = cc h

pub three_of-ok : (words : List (List ℕ)) (x : List ℕ × List ℕ × List ℕ) → three_of words ≡ Ok x → words ≡ x.0 ∷ x.1 ∷ x.2 ∷ []
three_of-ok [] x h = cc h
three_of-ok (a ∷ []) x h = cc h
three_of-ok (a ∷ b ∷ []) x h = cc h
three_of-ok (a ∷ b ∷ c ∷ []) x h = let same = unless_ok {A = List ℕ × List ℕ × List ℕ} _ (a, b, c) x h in λ i. (same i).0 ∷ (same i).1 ∷ (same i).2 ∷ []
three_of-ok (a ∷ b ∷ c ∷ d ∷ more) x h = cc h

pub four_of-ok : (words : List (List ℕ)) (x : List ℕ × List ℕ × List ℕ × List ℕ) → four_of words ≡ Ok x → words ≡ x.0 ∷ x.1 ∷ x.2 ∷ x.3 ∷ []
four_of-ok [] x h = cc h
four_of-ok (a ∷ []) x h = cc h
four_of-ok (a ∷ b ∷ []) x h = cc h
four_of-ok (a ∷ b ∷ c ∷ []) x h = cc h
four_of-ok (a ∷ b ∷ c ∷ d ∷ []) x h =
    let same = unless_ok {A = List ℕ × List ℕ × List ℕ × List ℕ} _ (a, b, c, d) x h in λ i. (same i).0 ∷ (same i).1 ∷ (same i).2 ∷ (same i).3 ∷ []
four_of-ok (a ∷ b ∷ c ∷ d ∷ e ∷ more) x h = cc h

pub some_of-ok : (words x : List (List ℕ)) → some_of words ≡ Ok x → (words ≡ x) × (0 < length x)
some_of-ok [] x h = cc h
some_of-ok (a ∷ more) x h = let same = unless_ok {A = List (List ℕ)} _ (a ∷ more) x h in (same, rw (← same) (omega arith))

pub first_of-ok : (words : List (List ℕ)) (x : List ℕ × List (List ℕ)) → first_of words ≡ Ok x → words ≡ x.0 ∷ x.1
first_of-ok [] x h = cc h
first_of-ok (a ∷ []) x h = cc h
first_of-ok (a ∷ b ∷ more) x h = let same = unless_ok {A = List ℕ × List (List ℕ)} _ (a, b ∷ more) x h in λ i. (same i).0 ∷ (same i).1

-- ---- words that have bytes are counted

abbrev pub AreFull : List (List ℕ) → Type 0
AreFull [] = Unit {0}
AreFull (word ∷ more) = (0 < length word) × AreFull more

pub has_empty-full : (words : List (List ℕ)) → AreFull words → has_empty words ≡ false
has_empty-full [] h = refl
has_empty-full (word ∷ more) h = rw (full word h.0) (has_empty-full more h.1)
