-- Places in lists, and the acts of one peer.
use Rattle.std.proofs.Common.{◌≡◌, ◌⊎◌, ◌∙◌, ◌+◌, ◌<◌, ◌≤◌, ℕ, zero, suc, Bool, eq-eqb, if◌then◌else◌, List, [], ◌∷◌, Some, slice_get, slice_set, arith, refl, ap, subst, inl, inr}
use Rattle.std.proofs.lemmas.Option.{none-some}
use Rattle.process_laws.specs.Moments.{Found, born, born_on}
use Rattle.lexemes.specs.Spelling.{IsAmong}
use Rattle.world_spec.specs.Runs.{place_of}
use Rattle.process_laws.specs.Acts.{Act, actor, own_acts}

-- what was set at a place is there, and other places keep what they have
pub set_get : {A : Type 0} (xs : List A) (i : ℕ) (y m : A) → slice_get xs i ≡ Some m → slice_get (slice_set xs i y) i ≡ Some y
set_get [] i y m is = absurd (none-some m is)
set_get (x ∷ xs) zero y m is = refl
set_get (x ∷ xs) (suc i) y m is = set_get xs i y m is

pub set_other : {A : Type 0} (xs : List A) (i j : ℕ) (y : A) → (i ≡ j → ⊥) → slice_get (slice_set xs i y) j ≡ slice_get xs j
set_other [] i j y apart = refl
set_other (x ∷ xs) zero zero y apart = absurd (apart refl)
set_other (x ∷ xs) zero (suc j) y apart = refl
set_other (x ∷ xs) (suc i) zero y apart = refl
set_other (x ∷ xs) (suc i) (suc j) y apart = set_other xs i j y (λ same. apart (ap suc same))

-- the second of two values at a place stays
pub set_twice : {A : Type 0} (xs : List A) (i : ℕ) (y z : A) → slice_set (slice_set xs i y) i z ≡ slice_set xs i z
set_twice [] i y z = refl
set_twice (x ∷ xs) zero y z = refl
set_twice (x ∷ xs) (suc i) y z = ap (λ rest. x ∷ rest) (set_twice xs i y z)

-- each peer was born on what its first process found
born_from : (first : ℕ → Found) (view : List ℕ) (p n i : ℕ) → i < n → slice_get (born first view p n) i ≡ Some (born_on view (first (p + i)))
born_from first view p zero i below = absurd (omega (arith, below))
born_from first view p (suc n) zero below = ap (λ (q : ℕ). Some (born_on view (first q))) (here p)
  where
    here : (p : ℕ) → p ≡ p + 0
    here p = omega arith
born_from first view p (suc n) (suc i) below = born_from first view (suc p) n i (omega (arith, below)) ∙ ap (λ (q : ℕ). Some (born_on view (first q))) (next p i)
  where
    next : (p i : ℕ) → suc p + i ≡ p + suc i
    next p i = omega arith

pub get_born : (first : ℕ → Found) (view : List ℕ) (peers q : ℕ) → IsAmong peers q → slice_get (born first view 1 peers) (place_of q) ≡ Some (born_on view (first q))
get_born first view peers q among = born_from first view 1 peers (place_of q) (inside q among.first among.last) ∙ ap (λ (p : ℕ). Some (born_on view (first p))) (number q among.first)
  where
    inside : (q : ℕ) → 1 ≤ q → q ≤ peers → place_of q < peers
    inside q first last = omega arith

    number : (q : ℕ) → 1 ≤ q → 1 + place_of q ≡ q
    number q first = omega arith

-- the next act of a peer that acts is this one
pub own_head : (a : Act) (acts : List Act) → own_acts (actor a) (a ∷ acts) ≡ a ∷ own_acts (actor a) acts
own_head a acts = ap (λ (b : Bool). if b then a ∷ own_acts (actor a) acts else own_acts (actor a) acts) (eq-eqb (actor a) (actor a) refl)

-- a peer of two is the first or the second
one_or_two : (p : ℕ) → IsAmong 2 p → (1 ≡ p) ⊎ (2 ≡ p)
one_or_two zero among = absurd (low among.first)
  where
    low : 1 ≤ 0 → ⊥
    low h = omega (arith, h)
one_or_two (suc zero) among = inl refl
one_or_two (suc (suc zero)) among = inr refl
one_or_two (suc (suc (suc n))) among = absurd (high n among.last)
  where
    high : (n : ℕ) → suc (suc (suc n)) ≤ 2 → ⊥
    high n h = omega (arith, h)

pub for_both : (P : ℕ → Type 0) → P 1 → P 2 → (p : ℕ) → IsAmong 2 p → P p
for_both P first second p among = by (one_or_two p among)
  where
    by : (1 ≡ p) ⊎ (2 ≡ p) → P p
    by (inl same) = subst P same first
    by (inr same) = subst P same second
