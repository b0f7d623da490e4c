-- Distinct items of one list that each come from an item of another are no more than the items of the other.
use Rattle.std.proofs.Common.{◌≡◌, ℕ, suc, ◌+◌, ◌≤◌, ◌⊎◌, List, [], ◌∷◌, ◌++◌, append_assoc, length, arith, ap, refl, inl, inr, sym, ◌∙◌, subst}
use Rattle.ens_base.proofs.Lists.{in_append, in_left, in_right}
use Rattle.std.proofs.lemmas.List.{length-append}
use Rattle.ens_base.specs.Lists.{◌∈◌, AreDistinct}

-- the list without one of its items
record Without {A : Type 0} (xs : List A) (x : A) : Type 0 where
  rest : List A
  size : length xs ≡ suc (length rest)
  others : (y : A) → y ∈ xs → (y ≡ x) ⊎ (y ∈ rest)

removed : {A : Type 0} (xs : List A) (x : A) → x ∈ xs → Without xs x
removed {A = A} [] x h = absurd h
removed {A = A} (z ∷ zs) x (inl e) = record { rest = zs; size = refl; others = by_place }
  where
    by_place : (y : A) → (y ≡ z) ⊎ (y ∈ zs) → (y ≡ x) ⊎ (y ∈ zs)
    by_place y (inl p) = inl (p ∙ sym e)
    by_place y (inr m) = inr m
removed {A = A} (z ∷ zs) x (inr h) = by_rest (removed zs x h)
  where
    by_rest : Without zs x → Without (z ∷ zs) x
    by_rest r = record { rest = z ∷ r.rest; size = ap (λ (n : ℕ). suc n) r.size; others = by_place }
      where
        later : (y : A) → (y ≡ x) ⊎ (y ∈ r.rest) → (y ≡ x) ⊎ (y ∈ (z ∷ r.rest))
        later y (inl p) = inl p
        later y (inr m) = inr (inr m)

        by_place : (y : A) → (y ≡ z) ⊎ (y ∈ zs) → (y ≡ x) ⊎ (y ∈ (z ∷ r.rest))
        by_place y (inl p) = inr (inl p)
        by_place y (inr m) = later y (r.others y m)

-- an item of the list from which x comes
abbrev pub Comes : {A B : Type 0} → (B → A) → List B → A → Type 0
Comes {B = B} f ys x = (y : B) × (y ∈ ys) × (f y ≡ x)

-- distinct items that each come from an item of a list are no more than its items
pub images_few : {A B : Type 0} (f : B → A) (ys : List B) (xs : List A) → AreDistinct xs → ((x : A) → x ∈ xs → Comes f ys x) → length xs ≤ length ys
images_few {A = A} f ys [] distinct come = omega arith
images_few {A = A} {B = B} f ys (x ∷ xs) distinct come = by_first (come x (inl refl)) (λ zs. images_few f zs xs distinct.1)
  where
    by_rest : (c : Comes f ys x) → Without ys c.0 → ((zs : List B) → ((z : A) → z ∈ xs → Comes f zs z) → length xs ≤ length zs) → suc (length xs) ≤ length ys
    by_rest c r later = shorter r.size (later r.rest (λ z m. by_image z m (come z (inr m))))
      where
        shorter : length ys ≡ suc (length r.rest) → length xs ≤ length r.rest → suc (length xs) ≤ length ys
        shorter e l = omega arith

        by_place : (z : A) → z ∈ xs → (d : Comes f ys z) → (d.0 ≡ c.0) ⊎ (d.0 ∈ r.rest) → Comes f r.rest z
        by_place z m d (inl e) = absurd (distinct.0 (subst (λ (w : A). w ∈ xs) (sym d.2 ∙ ap f e ∙ c.2) m))
        by_place z m d (inr n) = (d.0, n, d.2)

        by_image : (z : A) → z ∈ xs → Comes f ys z → Comes f r.rest z
        by_image z m d = by_place z m d (r.others d.0 d.1)

    by_first : Comes f ys x → ((zs : List B) → ((z : A) → z ∈ xs → Comes f zs z) → length xs ≤ length zs) → suc (length xs) ≤ length ys
    by_first c later = by_rest c (removed ys c.0 c.1) later

-- a list that has all items of a distinct one, and is no longer, is distinct; so is its end
pub end_distinct : {A : Type 0} (xs : List A) → AreDistinct xs → (first last : List A) → ((x : A) → x ∈ xs → x ∈ (first ++ last)) → length (first ++ last) ≤ length xs → AreDistinct last
end_distinct xs distinct first [] all few = tt
end_distinct {A = A} xs distinct first (y ∷ last) all few = (once, end_distinct xs distinct (first ++ y ∷ []) last (λ x m. subst (λ (l : List A). x ∈ l) (sym moved) (all x m)) (subst (λ (l : List A). length l ≤ length xs) (sym moved) few))
  where
    moved : (first ++ y ∷ []) ++ last ≡ first ++ y ∷ last
    moved = append_assoc first (y ∷ []) last

    without : y ∈ last → (x : A) → (x ∈ first) ⊎ (x ∈ (y ∷ last)) → x ∈ (first ++ last)
    without again x (inl h) = in_left first last x h
    without again x (inr (inl e)) = in_right first last x (subst (λ (z : A). z ∈ last) (sym e) again)
    without again x (inr (inr h)) = in_right first last x h

    longer : (f l b w n : ℕ) → w ≡ f + suc l → b ≡ f + l → w ≤ n → n ≤ b → ⊥
    longer f l b w n e g h k = omega (arith, e, g, h, k)

    once : y ∈ last → ⊥
    once again = longer (length first) (length last) (length (first ++ last)) (length (first ++ y ∷ last)) (length xs) (length-append first (y ∷ last)) (length-append first last) few
        (images_few (λ (x : A). x) (first ++ last) xs distinct (λ x m. (x, without again x (in_append first (y ∷ last) x (all x m)), refl)))
