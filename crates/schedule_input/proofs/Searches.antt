-- Searches for the first item that passes a test, and what a loop has found so far.
use Rattle.std.proofs.Common.{◌≡◌, ℕ, ◌+◌, ◌<◌, Bool, true, false, if◌then◌else◌, Option, None, Some, List, [], ◌∷◌, ◌++◌, length, take, drop, get_or, refl, sym, ap, ◌∙◌, inl, inr, append-nil}
use Rattle.std.specs.Prelude.{find}
use Rattle.std.specs.List.{flat_map}
use Rattle.std.proofs.lemmas.Grind.{flat_map-append}
use Rattle.std.proofs.lemmas.List.{take_more, take-append-drop}
use Rattle.std.proofs.lemmas.List.Concat.{flat_map-cons}
use Rattle.std.proofs.lemmas.List.Folds.{find-append}
use Rattle.std.specs.Option.{option_or}
use Rattle.ens_base.specs.Lists.{◌∈◌}

-- ## Items that fail the test

pub none_passes : {A : Type 0} (p : A → Bool) (xs : List A) → find p xs ≡ None → (x : A) → x ∈ xs → p x ≡ false
none_passes p [] h x at = absurd at
none_passes {A = A} p (y ∷ ys) h x at = by (p y) refl h (none_passes p ys) at
  where
    by : (b : Bool) → p y ≡ b → (if b then Some y else find p ys) ≡ None → (find p ys ≡ None → (x : A) → x ∈ ys → p x ≡ false) → x ∈ y ∷ ys → p x ≡ false
    by true e h later at = absurd (cc h)
    by false e h later (inl same) = ap p same ∙ e
    by false e h later (inr at) = later h x at

pub finds_none : {A : Type 0} (p : A → Bool) (xs : List A) → ((x : A) → x ∈ xs → p x ≡ false) → find p xs ≡ None
finds_none p [] f = refl
finds_none p (y ∷ ys) f = rw (f y (inl refl)) (finds_none p ys (λ x at. f x (inr at)))

-- ## The first item that passes it

-- the lists before and after the item
pub record FoundAt {A : Type 0} (p : A → Bool) (xs : List A) (x : A) : Type 0 where
  pub earlier : List A
  pub later : List A
  pub place : xs ≡ earlier ++ x ∷ later
  pub failed : (y : A) → y ∈ earlier → p y ≡ false
  pub passed : p x ≡ true

pub found_at : {A : Type 0} (p : A → Bool) (xs : List A) (x : A) → find p xs ≡ Some x → FoundAt p xs x
found_at p [] x h = absurd (cc h)
found_at {A = A} p (y ∷ ys) x h = by (p y) refl h (found_at p ys x)
  where
    skip : p y ≡ false → FoundAt p ys x → FoundAt p (y ∷ ys) x
    skip e f = record {
      earlier = y ∷ f.earlier;
      later = f.later;
      place = ap (λ (l : List A). y ∷ l) f.place;
      failed = fails;
      passed = f.passed;
    }
      where
        fails : (z : A) → z ∈ y ∷ f.earlier → p z ≡ false
        fails z (inl same) = ap p same ∙ e
        fails z (inr at) = f.failed z at

    by : (b : Bool) → p y ≡ b → (if b then Some y else find p ys) ≡ Some x → (find p ys ≡ Some x → FoundAt p ys x) → FoundAt p (y ∷ ys) x
    by true e h later =
        let same : y ≡ x = cc h in
        record { earlier = []; later = ys; place = ap (λ (z : A). z ∷ ys) same; failed = λ z at. absurd at; passed = ap p (sym same) ∙ e }
    by false e h later = skip e (later h)

pub found_first : {A : Type 0} (p : A → Bool) (earlier later : List A) (x : A) → ((y : A) → y ∈ earlier → p y ≡ false) → p x ≡ true → find p (earlier ++ x ∷ later) ≡ Some x
found_first p [] later x failed passed = rw passed refl
found_first p (y ∷ ys) later x failed passed = rw (failed y (inl refl)) (found_first p ys later x (λ z at. failed z (inr at)) passed)

-- ## The lists of several items, one after another

module _ {X A : Type 0} (f : X → List A) (p : A → Bool) (xs : List X) where
  one_more : (i : ℕ) (d : X) → i < length xs → flat_map f (take (i + 1) xs) ≡ flat_map f (take i xs) ++ f (get_or xs i d)
  one_more i d below =
      ap (flat_map f) (take_more xs i d below) ∙ flat_map-append f (take i xs) (get_or xs i d ∷ [])
      ∙ ap (λ (l : List A). flat_map f (take i xs) ++ l) (flat_map-cons f (get_or xs i d) [] ∙ append-nil (f (get_or xs i d)))

  -- what the next item's list gives, if none before gives any
  pub find_next : (i : ℕ) (d : X) (o : Option A) → i < length xs → find p (flat_map f (take i xs)) ≡ None → find p (f (get_or xs i d)) ≡ o → find p (flat_map f (take (i + 1) xs)) ≡ o
  find_next i d o below none here =
      ap (find p) (one_more i d below) ∙ find-append p (flat_map f (take i xs)) (f (get_or xs i d)) ∙ ap (λ (a : Option A). option_or a (find p (f (get_or xs i d)))) none ∙ here

  -- what the first lists give, all lists give
  pub find_whole : (n : ℕ) (x : A) → find p (flat_map f (take n xs)) ≡ Some x → find p (flat_map f xs) ≡ Some x
  find_whole n x found =
      ap (λ (l : List X). find p (flat_map f l)) (sym (take-append-drop n xs)) ∙ ap (find p) (flat_map-append f (take n xs) (drop n xs))
      ∙ find-append p (flat_map f (take n xs)) (flat_map f (drop n xs)) ∙ ap (λ (a : Option A). option_or a (find p (flat_map f (drop n xs)))) found

-- an option that is no item
pub none_of : {A : Type 0} (o : Option A) → ((x : A) → o ≡ Some x → ⊥) → o ≡ None
none_of None never = refl
none_of (Some x) never = absurd (never x refl)
