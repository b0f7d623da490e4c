-- Two lists with the same items are equal if the items of the one stand in this order in the other.
use Rattle.std.proofs.Common.{◌≡◌, ◌⊎◌, ℕ, suc, List, [], ◌∷◌, Some, inl, inr, refl, ap, sym, ◌∙◌, subst, arith}
use Rattle.std.specs.Prelude.{slice_get}
use Rattle.ens_base.specs.Lists.{◌∈◌, AreDistinct}
use Rattle.register_model.specs.Histories.{StandsBefore}

-- each item of the list comes before the later ones in the order
abbrev pub AllBefore : List ℕ → List ℕ → Type 0
AllBefore order [] = Unit {0}
AllBefore order (x ∷ xs) = ((j : ℕ) → j ∈ xs → StandsBefore order x j) × AllBefore order xs

-- an item stands somewhere
place : (xs : List ℕ) (x : ℕ) → x ∈ xs → (n : ℕ) × (slice_get xs n ≡ Some x)
place [] x is = absurd is
place (y ∷ ys) x (inl e) = (0, ap (λ (z : ℕ). Some z) (sym e))
place (y ∷ ys) x (inr is) = (suc (place ys x is).0, (place ys x is).1)

shifted : (h : ℕ) (order : List ℕ) (i j : ℕ) → StandsBefore (h ∷ order) i j → StandsBefore order i j
shifted h order i j before p q at_p at_q = omega (arith, before (suc p) (suc q) at_p at_q)

all_shifted : (h : ℕ) (order xs : List ℕ) → AllBefore (h ∷ order) xs → AllBefore order xs
all_shifted h order [] before = tt
all_shifted h order (x ∷ xs) before = (λ j is. shifted h order x j (before.0 j is), all_shifted h order xs before.1)

-- nothing comes before the first item
none_before : (h : ℕ) (order : List ℕ) (x : ℕ) → x ∈ (h ∷ order) → StandsBefore (h ∷ order) x h → ⊥
none_before h order x is before = let at = place (h ∷ order) x is in omega (arith, before at.0 0 at.1 refl)

never_before_itself : (order : List ℕ) (x : ℕ) → x ∈ order → StandsBefore order x x → ⊥
never_before_itself order x is before = let at = place order x is in omega (arith, before at.0 at.0 at.1 at.1)

pub same_order : (xs order : List ℕ) → AreDistinct order → ((x : ℕ) → x ∈ xs → x ∈ order) → ((x : ℕ) → x ∈ order → x ∈ xs) → AllBefore order xs → order ≡ xs
same_order [] [] distinct in_order in_list before = refl
same_order [] (h ∷ order) distinct in_order in_list before = absurd (in_list h (inl refl))
same_order (x ∷ xs) [] distinct in_order in_list before = absurd (in_order x (inl refl))
same_order (x ∷ xs) (h ∷ order) distinct in_order in_list before =
    ap (λ (z : ℕ). z ∷ order) first ∙ ap (λ (zs : List ℕ). x ∷ zs) (same_order xs order distinct.1 (λ y is. not_first y is (in_order y (inr is))) (λ y is. not_head y is (in_list y (inr is))) (all_shifted h order xs before.1))
  where
    by_place : (h ≡ x) ⊎ (h ∈ xs) → h ≡ x
    by_place (inl e) = e
    by_place (inr later) = absurd (none_before h order x (in_order x (inl refl)) (before.0 h later))

    first : h ≡ x
    first = by_place (in_list h (inl refl))

    not_first : (y : ℕ) → y ∈ xs → (y ≡ h) ⊎ (y ∈ order) → y ∈ order
    not_first y is (inr later) = later
    not_first y is (inl e) = absurd (never_before_itself (h ∷ order) x (in_order x (inl refl)) (before.0 x (subst (λ (z : ℕ). z ∈ xs) (e ∙ first) is)))

    not_head : (y : ℕ) → y ∈ order → (y ≡ x) ⊎ (y ∈ xs) → y ∈ xs
    not_head y is (inr later) = later
    not_head y is (inl e) = absurd (distinct.0 (subst (λ (z : ℕ). z ∈ order) (e ∙ sym first) is))
