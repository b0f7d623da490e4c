-- Searches in lists.
use Rattle.std.proofs.Common.{◌≡◌, ℕ, Bool, true, false, ◌||◌, if◌then◌else◌, Some, List, [], ◌∷◌, map, refl, sym, ap}
use Rattle.ens_base.proofs.Lists.{bytes_same}
use Rattle.std.specs.List.{list_any}
use Rattle.std.specs.Prelude.{find}
use Rattle.ens_base.specs.Lists.{same_bytes}

-- a test of the images
pub list_any-map : {A B : Type 0} (p : B → Bool) (f : A → B) (xs : List A) → list_any p (map f xs) ≡ list_any (λ x. p (f x)) xs
list_any-map p f [] = refl
list_any-map p f (x ∷ xs) = ap (λ (b : Bool). p (f x) || b) (list_any-map p f xs)

-- what a search found passes its test
pub find_passes : {A : Type 0} (p : A → Bool) (xs : List A) (x : A) → find p xs ≡ Some x → p x ≡ true
find_passes p [] x h = cc h
find_passes {A = A} p (y ∷ ys) x h = by (p y) (find_passes p ys x) refl h
  where
    by : (b : Bool) → (find p ys ≡ Some x → p x ≡ true) → p y ≡ b → (if b then Some y else find p ys) ≡ Some x → p x ≡ true
    by true later e h = let same : y ≡ x = cc h in rw (← same) e
    by false later e h = later h

-- the word that was looked up is that of what was found
pub find_word : {A : Type 0} (word_of : A → List ℕ) (xs : List A) (word : List ℕ) (x : A) → find (λ a. same_bytes (word_of a) word) xs ≡ Some x → word ≡ word_of x
find_word word_of xs word x h = sym (bytes_same (word_of x) word (find_passes (λ a. same_bytes (word_of a) word) xs x h))
