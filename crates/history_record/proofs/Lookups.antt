-- Tests of the items of a list.
use Rattle.std.proofs.Common.{◌≡◌, ◌≢◌, ℕ, Bool, true, false, List, [], ◌∷◌, map, inl, inr, ◌⊎◌, refl, sym, ap, subst, ◌∙◌}
use Rattle.std.specs.Prelude.{◌==◌, ◌&&◌, ◌||◌}
use Rattle.std.specs.List.{list_any}
use Rattle.std.proofs.lemmas.Bool.{eq-eqb, ne_eqb, or_cases, or_left, or_right}
use Rattle.ens_base.specs.Lists.{◌∈◌, AreDistinct}
use Rattle.ens_base.proofs.Lists.{in-map}

pub or_false : (b : Bool) → (b || false) ≡ b
or_false true = refl
or_false false = refl

-- an item that passes
pub item_any : {A : Type 0} (test : A → Bool) (xs : List A) (x : A) → x ∈ xs → test x ≡ true → list_any test xs ≡ true
item_any test [] x there h = absurd there
item_any test (y ∷ ys) x (inl e) h = or_left (test y) (list_any test ys) (ap test (sym e) ∙ h)
item_any test (y ∷ ys) x (inr there) h = or_right (test y) (list_any test ys) (item_any test ys x there h)

pub any_item : {A : Type 0} (test : A → Bool) (xs : List A) → list_any test xs ≡ true → (x : A) × (x ∈ xs) × (test x ≡ true)
any_item test [] h = absurd cc
any_item {A = A} test (y ∷ ys) h = by (or_cases (test y) (list_any test ys) h) (λ (later : list_any test ys ≡ true). any_item test ys later)
  where
    by : (test y ≡ true) ⊎ (list_any test ys ≡ true) → (list_any test ys ≡ true → (x : A) × (x ∈ ys) × (test x ≡ true)) → (x : A) × (x ∈ (y ∷ ys)) × (test x ≡ true)
    by (inl e) rest = (y, inl refl, e)
    by (inr e) rest = let found = rest e in (found.0, inr found.1, found.2)

-- tests that agree on each item
pub any_alike : {A : Type 0} (f g : A → Bool) (xs : List A) → ((x : A) → f x ≡ g x) → list_any f xs ≡ list_any g xs
any_alike f g [] same = refl
any_alike f g (x ∷ xs) same = λ i. same x i || any_alike f g xs same i

-- a test of the item of one name
module _ {A : Type 0} (name : A → ℕ) (test : A → Bool) where
  abbrev passes : ℕ → A → Bool
  passes id x = name x == id && test x

  pub any_none : (xs : List A) (id : ℕ) → ((x : A) → x ∈ xs → name x ≢ id) → list_any (passes id) xs ≡ false
  any_none [] id none = refl
  any_none (x ∷ xs) id none = rw (ne_eqb (name x) id (none x (inl refl))) (any_none xs id (λ y there. none y (inr there)))

  pub any_one : (xs : List A) (id : ℕ) (x : A) → AreDistinct (map name xs) → x ∈ xs → name x ≡ id → list_any (passes id) xs ≡ test x
  any_one [] id x d there named = absurd there
  any_one (y ∷ ys) id x d (inl e) named =
      let here : (name y == id) ≡ true = eq-eqb (name y) id (ap name (sym e) ∙ named) in
      let rest : list_any (passes id) ys ≡ false =
      any_none ys id (λ z there is. d.0 (let P : ℕ → Type 0 = λ n. n ∈ map name ys in subst P (is ∙ sym named ∙ ap name e) (in-map name ys z there))) in
      rw (here, rest) (or_false (test y) ∙ ap test (sym e))
  any_one (y ∷ ys) id x d (inr there) named =
      let off : (name y == id) ≡ false = ne_eqb (name y) id (λ is. d.0 (let P : ℕ → Type 0 = λ n. n ∈ map name ys in subst P (named ∙ sym is) (in-map name ys x there))) in
      rw off (any_one ys id x d.1 there named)
