-- Lists without duplicates.
use Rattle.std.proofs.Common.{◌≡◌, ℕ, zero, suc, ◌+◌, ◌<◌, Bool, true, false, List, [], ◌∷◌, ◌++◌, length, get_or, take, inl, inr, ◌⊎◌, refl, sym, ap, subst, ◌∙◌, arith, eqb-true}
use Rattle.std.specs.Prelude.{nat_eq, not, if◌then◌else◌}
use Rattle.std.specs.List.{list_any}
use Rattle.std.proofs.lemmas.Bool.{eq-eqb, false≢true, true≢false, or_cases, or_left, or_right}
use Rattle.std.proofs.lemmas.List.{take_more}
use Rattle.indexmap.specs.IndexSet.{insert_key}
use Rattle.ens_base.specs.Lists.{◌∈◌, AreDistinct}

any_in : (xs : List ℕ) (x : ℕ) → list_any (nat_eq x) xs ≡ true → x ∈ xs
any_in [] x h = absurd (false≢true h)
any_in (y ∷ ys) x h = by (or_cases (nat_eq x y) (list_any (nat_eq x) ys) h) (λ (e : list_any (nat_eq x) ys ≡ true). any_in ys x e)
  where
    by : (nat_eq x y ≡ true) ⊎ (list_any (nat_eq x) ys ≡ true) → (list_any (nat_eq x) ys ≡ true → x ∈ ys) → x ∈ (y ∷ ys)
    by (inl e) rest = inl (eqb-true x y e)
    by (inr e) rest = inr (rest e)

in_any : (xs : List ℕ) (x : ℕ) → x ∈ xs → list_any (nat_eq x) xs ≡ true
in_any [] x h = absurd h
in_any (y ∷ ys) x (inl e) = or_left (nat_eq x y) (list_any (nat_eq x) ys) (eq-eqb x y e)
in_any (y ∷ ys) x (inr h) = or_right (nat_eq x y) (list_any (nat_eq x) ys) (in_any ys x h)

get_in : (xs : List ℕ) (n d : ℕ) → n < length xs → get_or xs n d ∈ xs
get_in [] n d lt = absurd (omega arith)
get_in (x ∷ xs) zero d lt = inl refl
get_in (x ∷ xs) (suc n) d lt = inr (get_in xs n d (omega arith))

-- an item that also occurs before its position occurs twice
twice : (ids : List ℕ) (n d : ℕ) → n < length ids → get_or ids n d ∈ take n ids → ¬ (AreDistinct ids)
twice [] n d lt h distinct = absurd (omega arith)
twice (x ∷ ids) zero d lt h distinct = h
twice (x ∷ ids) (suc n) d lt (inl e) distinct = let P : ℕ → Type 0 = λ y. y ∈ ids in distinct.0 (subst P e (get_in ids n d (omega arith)))
twice (x ∷ ids) (suc n) d lt (inr h) distinct = twice ids n d (omega arith) h distinct.1

in_push : (xs : List ℕ) (y x : ℕ) → x ∈ (xs ++ y ∷ []) → (x ∈ xs) ⊎ (x ≡ y)
in_push [] y x (inl e) = inr e
in_push [] y x (inr h) = absurd h
in_push (z ∷ xs) y x (inl e) = inl (inl e)
in_push (z ∷ xs) y x (inr h) = by (in_push xs y x h)
  where
    by : (x ∈ xs) ⊎ (x ≡ y) → (x ∈ (z ∷ xs)) ⊎ (x ≡ y)
    by (inl there) = inl (inr there)
    by (inr e) = inr e

distinct_push : (xs : List ℕ) (y : ℕ) → AreDistinct xs → ¬ (y ∈ xs) → AreDistinct (xs ++ y ∷ [])
distinct_push [] y distinct new = (λ h. h, tt)
distinct_push (x ∷ xs) y distinct new = (apart, distinct_push xs y distinct.1 (λ h. new (inr h)))
  where
    by : (x ∈ xs) ⊎ (x ≡ y) → ⊥
    by (inl h) = distinct.0 h
    by (inr e) = new (inl (sym e))

    apart : ¬ (x ∈ (xs ++ y ∷ []))
    apart h = by (in_push xs y x h)

-- the first n ids were seen, and none of them twice
pub record SeenAll (keys ids : List ℕ) (n : ℕ) : Type 0 where
  pub same : keys ≡ take n ids
  pub distinct : AreDistinct (take n ids)

module _ (keys ids : List ℕ) (n d : ℕ) (lt : n < length ids) (seen : SeenAll keys ids n) where
  found : list_any (nat_eq (get_or ids n d)) keys ≡ true → get_or ids n d ∈ take n ids
  found e = let P : List ℕ → Type 0 = λ l. get_or ids n d ∈ l in subst P seen.same (any_in keys (get_or ids n d) e)

  pub seen_twice : list_any (nat_eq (get_or ids n d)) keys ≡ true → ¬ (AreDistinct ids)
  seen_twice e = twice ids n d lt (found e)

  pub seen_next : (next : List ℕ) → next ≡ insert_key nat_eq keys (get_or ids n d) → list_any (nat_eq (get_or ids n d)) keys ≡ false → SeenAll next ids (n + 1)
  seen_next next put new = record {
    same = put ∙ ap (λ (b : Bool). if b then keys else keys ++ get_or ids n d ∷ []) new ∙ ap (λ (l : List ℕ). l ++ get_or ids n d ∷ []) seen.same ∙ sym (take_more ids n d lt);
    distinct = let P : List ℕ → Type 0 = AreDistinct in subst P (sym (take_more ids n d lt)) (distinct_push (take n ids) (get_or ids n d) seen.distinct apart);
  }
    where
      apart : ¬ (get_or ids n d ∈ take n ids)
      apart h = false≢true (sym new ∙ in_any keys (get_or ids n d) (let P : List ℕ → Type 0 = λ l. get_or ids n d ∈ l in subst P (sym seen.same) h))

pub was_there : (r x : Bool) → r ≡ not x → r ≡ false → x ≡ true
was_there r true e h = refl
was_there r false e h = absurd (true≢false (sym e ∙ h))

pub was_new : (r x : Bool) → r ≡ not x → r ≡ true → x ≡ false
was_new r false e h = refl
was_new r true e h = absurd (false≢true (sym e ∙ h))
