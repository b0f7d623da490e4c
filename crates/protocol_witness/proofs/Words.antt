-- The constants of the runs: keys, versions, sets of peers; and induction over the versions
-- proposed so far.
use Rattle.std.proofs.Common.{◌≡◌, ℕ, ◌+◌, ◌*◌, ◌^◌, Bool, true, false, ◌||◌, ◌==◌, ◌⊎◌, sym, subst, ap, eqb-true, List, [], ◌∷◌, eqb, refl, inl, inr, Option, None, Some}
use Rattle.std.proofs.lemmas.Bool.{false≢true, true≢false, eqb-false}
use Rattle.ens_base.specs.Lists.{same_bytes}
use Rattle.protocol_laws.specs.Ledger.{put}
use Rattle.protocol_laws.proofs.Basics.{proposed_then}

abbrev pub opening_view : List ℕ
opening_view = 1 ∷ []

-- the two keys
abbrev pub first_key : List ℕ
first_key = 107 ∷ []

abbrev pub other_key : List ℕ
other_key = 108 ∷ []

-- the first and the second version of epoch 1, and of epoch 2
abbrev pub written : ℕ
written = 1 * 2 ^ 64 + 2

abbrev pub lost : ℕ
lost = 1 * 2 ^ 64 + 3

abbrev pub rewritten : ℕ
rewritten = 2 * 2 ^ 64 + 2

abbrev pub found : ℕ
found = 2 * 2 ^ 64 + 3

abbrev pub bytes : Option (List ℕ)
bytes = Some (97 ∷ [])

abbrev pub others : Option (List ℕ)
others = Some (98 ∷ [])

abbrev pub one : ℕ → Bool
one q = q == 1

abbrev pub two : ℕ → Bool
two q = q == 2

abbrev pub both : ℕ → Bool
both q = (q == 1) || (q == 2)

pub at_one : (P : ℕ → Type 0) → P 1 → (q : ℕ) → one q ≡ true → P q
at_one P p q h = subst P (sym (eqb-true q 1 h)) p

pub at_two : (P : ℕ → Type 0) → P 2 → (q : ℕ) → two q ≡ true → P q
at_two P p q h = subst P (sym (eqb-true q 2 h)) p

pub at_both : (P : ℕ → Type 0) → P 1 → P 2 → (q : ℕ) → both q ≡ true → P q
at_both P a b q h = by_cases (eqb q 1) (eqb q 2) refl refl h
  where
    by_cases : (x y : Bool) → eqb q 1 ≡ x → eqb q 2 ≡ y → (x || y) ≡ true → P q
    by_cases true y e f t = subst P (sym (eqb-true q 1 e)) a
    by_cases false true e f t = subst P (sym (eqb-true q 2 f)) b
    by_cases false false e f t = absurd (false≢true t)

pub not_member : (x y : ℕ) → eqb x y ≡ false → (x ≡ y) ⊎ ⊥ → ⊥
not_member x y n (inl e) = eqb-false x y n e
not_member x y n (inr e) = e

-- each of the versions proposed so far has the property
pub none_yet : (P : ℕ → Type 0) (x : ℕ) → false ≡ true → P x
none_yet P x h = absurd (false≢true h)

pub one_yet : (P : ℕ → Type 0) → P written → (x : ℕ) → put (λ v. false) written true x ≡ true → P x
one_yet P a = proposed_then (λ v. false) written P a (λ x n h. absurd (false≢true h))

pub two_yet : (P : ℕ → Type 0) → P written → P lost → (x : ℕ) → put (put (λ v. false) written true) lost true x ≡ true → P x
two_yet P a b = proposed_then (put (λ v. false) written true) lost P b (λ x n h. one_yet P a x h)

pub three_yet : (P : ℕ → Type 0) → P written → P lost → P rewritten → (x : ℕ) → put (put (put (λ v. false) written true) lost true) rewritten true x ≡ true → P x
three_yet P a b c = proposed_then (put (put (λ v. false) written true) lost true) rewritten P c (λ x n h. two_yet P a b x h)

pub four_yet : (P : ℕ → Type 0) → P written → P lost → P rewritten → P found → (x : ℕ) → put (put (put (put (λ v. false) written true) lost true) rewritten true) found true x ≡ true → P x
four_yet P a b c d = proposed_then (put (put (put (λ v. false) written true) lost true) rewritten true) found P d (λ x n h. three_yet P a b c x h)

pub keys_differ : first_key ≡ other_key → ⊥
keys_differ e = true≢false (ap (λ (k : List ℕ). same_bytes first_key k) e)

pub some_differs : (i j : ℕ) → (i ≡ j → ⊥) → Some i ≡ Some j → ⊥
some_differs i j n e = n (cc)

pub none_differs : (c : Option ℕ) (j : ℕ) → c ≡ None → c ≡ Some j → ⊥
none_differs c j e f = cc
