-- A version and its ancestors, one parent at a time.
use Rattle.std.proofs.Common.{◌≡◌, ℕ, zero, suc, ◌<◌, ◌≤◌, ◌&&◌, ◌++◌, ◌∷◌, [], List, Bool, true, false, cond, eqb, eqb-true, arith, refl, sym, ap, ◌∙◌, map}
use Rattle.std.specs.Prelude.{reverse}
use Rattle.std.proofs.lemmas.Bool.Decides.{nat_tests}
use Rattle.std.proofs.lemmas.List.{append_assoc, map-append, reverse-append}
use Rattle.ens_base.specs.Lists.{same_bytes}
use Rattle.ens_base.specs.declared.epoch.Version.{Version}
use Rattle.register_model.specs.Orders.{rank, rank_or_none, lower_or_none, parent_in, chain}
use Rattle.register_model.specs.declared.note.Note.{Note}
use Rattle.register_model.specs.declared.note.Note.TheVariants.{Proposed, Settled, Read}

pub lower_is : (p v : ℕ) → 0 < v → lower_or_none p v < v
lower_is p v h = grind (arith, nat_tests)

-- each parent is smaller than its child
pub parent_lower : (notes : List Note) (key : List ℕ) (v : ℕ) → 0 < v → parent_in notes key v < v
parent_lower [] key v h = h
parent_lower (Proposed k w p c ∷ notes) key v h = by_test (same_bytes k key && eqb (rank w) v) (lower_is (rank_or_none p) v h) (parent_lower notes key v h)
  where
    by_test : (b : Bool) → lower_or_none (rank_or_none p) v < v → parent_in notes key v < v → cond b (lower_or_none (rank_or_none p) v) (parent_in notes key v) < v
    by_test true here later = here
    by_test false here later = later
parent_lower (Settled k w ∷ notes) key v h = parent_lower notes key v h
parent_lower (Read i k b ∷ notes) key v h = parent_lower notes key v h

module _ (parent : ℕ → ℕ) (lower : (v : ℕ) → 0 < v → parent v < v) where
  chain_at : (n v : ℕ) → 0 < v → chain (suc n) parent v ≡ chain n parent (parent v) ++ v ∷ []
  chain_at n v h = by_zero (eqb v 0) refl
    where
      by_zero : (b : Bool) → eqb v 0 ≡ b → (elim b as (λ (c : Bool). List ℕ) [ true ↦ [] | false ↦ chain n parent (parent v) ++ v ∷ [] ]) ≡ chain n parent (parent v) ++ v ∷ []
      by_zero true t = absurd (not_zero (eqb-true v 0 t))
        where
          not_zero : v ≡ 0 → ⊥
          not_zero e = omega arith
      by_zero false t = refl

  -- every bound at least as great as the version gives the same chain
  chain_enough : (n m v : ℕ) → v ≤ n → v ≤ m → chain n parent v ≡ chain m parent v
  chain_enough zero zero v h k = refl
  chain_enough zero (suc m) zero h k = refl
  chain_enough zero (suc m) (suc v) h k = absurd (omega arith)
  chain_enough (suc n) zero zero h k = refl
  chain_enough (suc n) zero (suc v) h k = absurd (omega arith)
  chain_enough (suc n) (suc m) zero h k = refl
  chain_enough (suc n) (suc m) (suc v) h k =
      chain_at n (suc v) (omega arith)
      ∙ ap (λ (xs : List ℕ). xs ++ suc v ∷ []) (chain_enough n m (parent (suc v)) (within n h (lower (suc v) (omega arith))) (within m k (lower (suc v) (omega arith))))
      ∙ sym (chain_at m (suc v) (omega arith))
    where
      within : (n : ℕ) → suc v ≤ suc n → parent (suc v) < suc v → parent (suc v) ≤ n
      within n h l = omega arith

  -- the chain of a version is that of its parent, followed by the version
  pub chain_step : (v : ℕ) → 0 < v → chain v parent v ≡ chain (parent v) parent (parent v) ++ v ∷ []
  chain_step zero h = absurd (omega arith)
  chain_step (suc v) h = chain_at v (suc v) h ∙ ap (λ (xs : List ℕ). xs ++ suc v ∷ []) (chain_enough v (parent (suc v)) (parent (suc v)) (within (lower (suc v) h)) (omega arith))
    where
      within : parent (suc v) < suc v → parent (suc v) ≤ v
      within l = omega arith

-- a version appended comes first in the reversed list of ranks
pub turned : (vs : List Version) (v : Version) → reverse (map rank (vs ++ v ∷ [])) ≡ rank v ∷ reverse (map rank vs)
turned vs v = ap reverse (map-append rank vs (v ∷ [])) ∙ reverse-append (map rank vs) (rank v ∷ [])

-- one more version of the chain, and its parent next
pub climbs : (notes : List Note) (key : List ℕ) (vs more : List Version) (v : Version) (u : ℕ) (all : List ℕ) → more ≡ vs ++ v ∷ [] → u ≡ parent_in notes key (rank v) → 0 < rank v
    → chain (rank v) (parent_in notes key) (rank v) ++ reverse (map rank vs) ≡ all → chain u (parent_in notes key) u ++ reverse (map rank more) ≡ all
climbs notes key vs more v u all e f positive old = rw (e, f, turned vs v) (sym (append_assoc _ (rank v ∷ []) (reverse (map rank vs))) ∙ ap (λ (xs : List ℕ). xs ++ reverse (map rank vs)) (sym (chain_step (parent_in notes key) (parent_lower notes key) (rank v) positive)) ∙ old)
