-- Maps with one entry set, and the epoch of a version.
use Rattle.std.proofs.Common.{◌≡◌, ℕ, ◌<◌, ◌≤◌, Bool, true, false, List, eqb, eqb-true, arith, ap, subst, refl}
use Rattle.ens_base.proofs.Lists.{bytes_same}
use Rattle.std.proofs.lemmas.Bool.Decides.{nat_tests}
use lib.Pointwise.{bytes_decides}
use Rattle.ens_base.specs.Lists.{same_bytes}
use Rattle.protocol_laws.specs.Ledger.{put, mark}
use Rattle.protocol_laws.specs.Objects.{Map, epoch_of, set_entry}

pub epoch_mono : (u v : ℕ) → u ≤ v → epoch_of u ≤ epoch_of v
unfolding epoch_of
epoch_mono u v h = omega arith

pub epoch_of-zero : epoch_of 0 ≡ 0
unfolding epoch_of
epoch_of-zero = refl

pub zero_not : (v : ℕ) → 0 < epoch_of v → v ≡ 0 → ⊥
zero_not v h e = low (ap epoch_of e)
  where
    low : epoch_of v ≡ epoch_of 0 → ⊥
    low s = omega (arith, epoch_of-zero)

pub eq_same_bytes : (a b : List ℕ) → a ≡ b → same_bytes a b ≡ true
eq_same_bytes a b h = (bytes_decides a b).1 h

-- maps that agree at a key agree there with one entry set
pub set_same : (m n : Map) (j : List ℕ) (v : ℕ) (k : List ℕ) → m k ≡ n k → set_entry m j v k ≡ set_entry n j v k
set_same m n j v k e = by_key (same_bytes j k) refl
  where
    by_key : (b : Bool) → same_bytes j k ≡ b → set_entry m j v k ≡ set_entry n j v k
    by_key true is = rw is refl
    by_key false is = rw is e

-- what holds of the new entry at its key, and of each old one, holds of each entry
pub entry_then : (m : Map) (k : List ℕ) (v : ℕ) (P : List ℕ → ℕ → Type 0) → P k v → ((j : List ℕ) → P j (m j)) → (j : List ℕ) → P j (set_entry m k v j)
entry_then m k v P here old j = by_cases (same_bytes k j) refl
  where
    by_cases : (b : Bool) → same_bytes k j ≡ b → P j (set_entry m k v j)
    by_cases true t = rw t (subst (λ (i : List ℕ). P i v) (bytes_same k j t) here)
    by_cases false t = rw t (old j)

pub put_other : {A : Type 0} (f : ℕ → A) (x : ℕ) (a : A) (v : ℕ) → (x ≡ v → ⊥) → put f x a v ≡ f v
put_other f x a v n = by_cases (eqb x v) refl
  where
    by_cases : (b : Bool) → eqb x v ≡ b → put f x a v ≡ f v
    by_cases true t = absurd (n (eqb-true x v t))
    by_cases false t = rw t refl

pub put_here : {A : Type 0} (f : ℕ → A) (x : ℕ) (a : A) → put f x a x ≡ a
put_here f x a = by_cases (eqb x x) refl
  where
    by_cases : (b : Bool) → eqb x x ≡ b → put f x a x ≡ a
    by_cases true t = rw t refl
    by_cases false t = absurd (grind (arith, nat_tests))

-- what holds of the new value at x, and of each old one at another place, holds everywhere
pub put_then : {A : Type 0} (f : ℕ → A) (x : ℕ) (a : A) (P : ℕ → A → Type 0) → P x a → ((y : ℕ) → (x ≡ y → ⊥) → P y (f y)) → (y : ℕ) → P y (put f x a y)
put_then f x a P here old y = by_cases (eqb x y) refl
  where
    by_cases : (b : Bool) → eqb x y ≡ b → P y (put f x a y)
    by_cases true t = rw t (subst (λ z. P z a) (eqb-true x y t) here)
    by_cases false t = rw t (old y (λ e. differ y t e))
      where
        differ : (y : ℕ) → eqb x y ≡ false → x ≡ y → ⊥
        differ y t e = grind (arith, nat_tests)

pub mark_here : (r : ℕ → ℕ → Bool) (d p : ℕ) → mark r d p d p ≡ true
mark_here r d p = grind (arith, nat_tests)
