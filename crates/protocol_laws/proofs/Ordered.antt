-- Lists: membership in concatenations, and lists in which each item is related to all later ones.
use Rattle.std.proofs.Common.{◌≡◌, ℕ, zero, suc, ◌<◌, ◌⊎◌, List, [], ◌∷◌, ◌++◌, Some, arith, refl, inl, inr, sym, subst}
use Rattle.ens_base.proofs.Lists.{in_append}
use Rattle.std.specs.Prelude.{slice_get}
use Rattle.ens_base.specs.Lists.{◌∈◌, AreDistinct}

-- what holds of the new last item, and of each old one, holds of each
pub pushed_then : {A : Type 0} (xs : List A) (y : A) (P : A → Type 0) → P y → ((x : A) → x ∈ xs → P x) → (z : A) → z ∈ (xs ++ y ∷ []) → P z
pushed_then xs y P here old z h = by_side (in_append xs (y ∷ []) z h)
  where
    by_side : (z ∈ xs) ⊎ ((z ≡ y) ⊎ ⊥) → P z
    by_side (inl p) = old z p
    by_side (inr (inl e)) = subst P (sym e) here
    by_side (inr (inr e)) = absurd e

module _ {A : Type 0} (R : A → A → Type 0) where
  abbrev pub Ordered : List A → Type 0
  Ordered [] = Unit {0}
  Ordered (x ∷ xs) = ((y : A) → y ∈ xs → R x y) × Ordered xs

  pub ordered_append : (xs ys : List A) → Ordered xs → Ordered ys → ((x y : A) → x ∈ xs → y ∈ ys → R x y) → Ordered (xs ++ ys)
  ordered_append [] ys a b l = b
  ordered_append (x ∷ xs) ys a b l = (λ y h. by_side y (in_append xs ys y h), ordered_append xs ys a.1 b (λ u v p q. l u v (inr p) q))
    where
      by_side : (y : A) → (y ∈ xs) ⊎ (y ∈ ys) → R x y
      by_side y (inl p) = a.0 y p
      by_side y (inr p) = l x y (inl refl) p

  pub ordered_push : (xs : List A) (y : A) → Ordered xs → ((x : A) → x ∈ xs → R x y) → Ordered (xs ++ y ∷ [])
  ordered_push xs y a l = ordered_append xs (y ∷ []) a (λ z h. absurd h, tt) (λ u v p q. last u v p q)
    where
      last : (u v : A) → u ∈ xs → (v ≡ y) ⊎ ⊥ → R u v
      last u v p (inl e) = subst (λ w. R u w) (sym e) (l u p)
      last u v p (inr e) = absurd e

  pub get_in : (xs : List A) (q : ℕ) (y : A) → slice_get xs q ≡ Some y → y ∈ xs
  get_in [] q y e = absurd (cc)
  get_in (x ∷ xs) zero y e = inl (cc)
  get_in (x ∷ xs) (suc q) y e = inr (get_in xs q y e)

  -- of two items, the earlier one is related to the later one
  pub by_place : (xs : List A) → Ordered xs → (p q : ℕ) (x y : A) → slice_get xs p ≡ Some x → slice_get xs q ≡ Some y → p < q → R x y
  by_place [] o p q x y e f l = absurd (cc)
  by_place (z ∷ zs) o p zero x y e f l = absurd (omega arith)
  by_place (z ∷ zs) o zero (suc q) x y e f l = let same : z ≡ x = cc in subst (λ w. R w y) same (o.0 y (get_in zs q y f))
  by_place (z ∷ zs) o (suc p) (suc q) x y e f l = by_place zs o.1 p q x y e f (omega arith)

  pub distinct : ((x : A) → R x x → ⊥) → (xs : List A) → Ordered xs → AreDistinct xs
  distinct irreflexive [] o = tt
  distinct irreflexive (x ∷ xs) o = (λ h. irreflexive x (o.0 x h), distinct irreflexive xs o.1)

pub ordered_more : {A : Type 0} (R S : A → A → Type 0) (xs : List A) → ((x y : A) → x ∈ xs → y ∈ xs → R x y → S x y) → Ordered R xs → Ordered S xs
ordered_more R S [] f o = tt
ordered_more R S (x ∷ xs) f o = (λ y h. f x y (inl refl) (inr h) (o.0 y h), ordered_more R S xs (λ u v p q. f u v (inr p) (inr q)) o.1)
