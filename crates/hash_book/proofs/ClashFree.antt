-- A new string keeps a list free of clashes.
use Rattle.std.proofs.Common.{◌≡◌, ◌≢◌, ℕ, Bool, true, false, List, [], ◌∷◌, ◌++◌, Option, None, Some, Result, Ok, Err, Contains, ◌⊎◌, inl, inr, refl, sym, ap, subst, ◌∙◌, arith}
use Rattle.std.specs.Bool.{Decides}
use Rattle.std.specs.List.{AllByRecursion}
use Rattle.std.proofs.lemmas.List.Elements.{recursion_from_All, All-contains, Contains-push_cases}
use Rattle.std.proofs.lemmas.Bool.{false≢true}
use Rattle.std.proofs.lemmas.Slice.Eq.{bytes_eq-Decides}
use Rattle.md5.specs.Md5.{md5}
use Rattle.ens_base.specs.Lists.{◌∈◌, AreDistinct, same_bytes}
use Rattle.hash_book.specs.Hashing.{Book, IsClash, IsNew, IsClashFree, AreClashFree, Takes, Admits}
use Rattle.hash_book.specs.declared.error.HashError.{HashError}

in_push : (xs : List (List ℕ)) (y x : List ℕ) → x ∈ (xs ++ y ∷ []) → (x ∈ xs) ⊎ (x ≡ y)
in_push [] y x (inl e) = inr e
in_push [] y x (inr h) = absurd h
in_push (z ∷ xs) y x (inl e) = inl (inl e)
in_push (z ∷ xs) y x (inr h) = by (in_push xs y x h)
  where
    by : (x ∈ xs) ⊎ (x ≡ y) → (x ∈ (z ∷ xs)) ⊎ (x ≡ y)
    by (inl there) = inl (inr there)
    by (inr e) = inr e

distinct_push : (xs : List (List ℕ)) (y : List ℕ) → AreDistinct xs → AllByRecursion (λ s. md5 s ≢ md5 y) xs → AreDistinct (xs ++ y ∷ [])
distinct_push [] y distinct new = (λ h. h, tt)
distinct_push (x ∷ xs) y distinct new = (apart, distinct_push xs y distinct.1 new.1)
  where
    by : (x ∈ xs) ⊎ (x ≡ y) → ⊥
    by (inl h) = distinct.0 h
    by (inr e) = new.0 (ap md5 e)

    apart : ¬ (x ∈ (xs ++ y ∷ []))
    apart h = by (in_push xs y x h)

pub free_push : (kept : List (List ℕ)) (bytes : List ℕ) → IsClashFree kept → IsNew kept bytes → IsClashFree (kept ++ bytes ∷ [])
free_push kept bytes free new = record {
  distinct = distinct_push kept bytes free.distinct (recursion_from_All (λ s. md5 s ≢ md5 bytes) kept new);
  apart = λ first second a b. by first second (Contains-push_cases kept bytes first a) (Contains-push_cases kept bytes second b);
}
  where
    other : (s : List ℕ) → Contains kept s → md5 s ≢ md5 bytes
    other s there = All-contains (λ (x : List ℕ). md5 x ≢ md5 bytes) kept s new there

    by : (first second : List ℕ) → Contains kept first ⊎ (bytes ≡ first) → Contains kept second ⊎ (bytes ≡ second) → ¬ IsClash first second
    by first second (inl a) (inl b) clash = free.apart first second a b clash
    by first second (inl a) (inr e) clash = other first a (clash.same ∙ ap md5 (sym e))
    by first second (inr e) (inl b) clash = other second b (sym clash.same ∙ ap md5 (sym e))
    by first second (inr e) (inr f) clash = clash.differ (sym e ∙ f)

pub free_empty : IsClashFree []
free_empty = record { distinct = tt; apart = λ first second a b. absurd (omega (arith, a.1)) }

pub free_after : (bytes : List ℕ) (old new : Option Book) → Takes bytes old new → AreClashFree old → AreClashFree new
free_after bytes None None took free = tt
free_after bytes None (Some new) took free = absurd cc
free_after bytes (Some old) None took free = absurd took
free_after bytes (Some old) (Some new) (inl kept) free = subst (λ (b : Book). IsClashFree b.strings) (sym kept.1) free
free_after bytes (Some old) (Some new) (inr added) free = subst (λ (b : Book). IsClashFree b.strings) (sym added.1) (free_push old.strings bytes free added.0.0)

pub free_admitted : {T : Type 0} (bytes : List ℕ) (old new : Option Book) (a b c d : ℕ) (result : Result T HashError) → Admits bytes old new a b c d result → AreClashFree old → AreClashFree new
free_admitted bytes old new a b c d (Ok x) admits free = free_after bytes old new admits.0 free
free_admitted bytes old new a b c d (Err e) admits free = subst AreClashFree (sym admits.0) free

pub same_string : (kept : List (List ℕ)) (first second : List ℕ) → IsClashFree kept → Contains kept first → Contains kept second → md5 first ≡ md5 second → first ≡ second
same_string kept first second free a b same = by (same_bytes first second) (bytes_eq-Decides first second)
  where
    by : (eq : Bool) → Decides eq (first ≡ second) → first ≡ second
    by true d = d.0 refl
    by false d = absurd (free.apart first second a b record { differ = λ e. false≢true (d.1 e); same = same })
