-- What the queue of any bytes is after a change of the queue of some bytes.
use Rattle.std.proofs.Common.{◌≡◌, ◌≤◌, arith, ℕ, Bool, true, false, cond, List, [], ◌∷◌, length, Option, Some, refl, sym, ap, subst, ◌∙◌}
use Rattle.std.specs.Prelude.{drop}
use Rattle.std.specs.BTreeMap.{get, BTreeMap, UpdatesBy, WritesThrough}
use Rattle.std.proofs.lemmas.Map.Text.{is_eq-slice_cmp}
use Rattle.ens_base.specs.Lists.{bytes_cmp, same_bytes}
use Rattle.ens_base.proofs.Lists.{bytes_same}
use Rattle.ens_base.proofs.Tests.{some_of}
use Rattle.network.specs.Indexes.{list_or_empty}

module _ (f : List ℕ → List ℕ) (was w : Option (List ℕ)) (change : list_or_empty w ≡ f (list_or_empty was)) where
  at_key : (b : Bool) (old new : Option (List ℕ)) → new ≡ cond b w old → (b ≡ true → old ≡ was) → list_or_empty new ≡ cond b (f (list_or_empty old)) (list_or_empty old)
  at_key true old new e there = ap list_or_empty e ∙ change ∙ sym (ap (λ (o : Option (List ℕ)). f (list_or_empty o)) (there refl))
  at_key false old new e there = ap list_or_empty e

  -- the queue of the key is changed by f, and those of the other keys stay
  pub changed : (m n : BTreeMap (List ℕ) (List ℕ)) (key : List ℕ) → UpdatesBy bytes_cmp (bytes_cmp key) m n w → was ≡ get bytes_cmp m key
      → (k : List ℕ) → list_or_empty (get bytes_cmp n k) ≡ cond (same_bytes key k) (f (list_or_empty (get bytes_cmp m k))) (list_or_empty (get bytes_cmp m k))
  changed m n key updates here k = at_key (same_bytes key k) (get bytes_cmp m k) (get bytes_cmp n k)
      (updates.0 k ∙ ap (λ (b : Bool). cond b w (get bytes_cmp m k)) (is_eq-slice_cmp key k))
      (λ on. sym (subst (λ (q : List ℕ). was ≡ get bytes_cmp m q) (bytes_same key k on) here))

-- the same after a write through the reference at the key
pub written : (f : List ℕ → List ℕ) (was w : List ℕ) → w ≡ f was → (m n : BTreeMap (List ℕ) (List ℕ)) (key : List ℕ) → WritesThrough bytes_cmp (bytes_cmp key) m w n → Some was ≡ get bytes_cmp m key
    → (k : List ℕ) → list_or_empty (get bytes_cmp n k) ≡ cond (same_bytes key k) (f (list_or_empty (get bytes_cmp m k))) (list_or_empty (get bytes_cmp m k))
written f was w change m n key writes here = changed f (Some was) (Some w) change m n key (writes.3 (some_of (get bytes_cmp m key) was here)) here

pub rest_of_few : (xs : List ℕ) → length xs ≤ 1 → [] ≡ drop 1 xs
rest_of_few [] h = refl
rest_of_few (x ∷ []) h = refl
rest_of_few (x ∷ y ∷ xs) h = absurd (omega (arith, h))
