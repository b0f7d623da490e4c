-- The results of one look more.
use Rattle.std.proofs.Common.{◌≡◌, ℕ, ◌+◌, ◌-◌, ◌<◌, ◌≤◌, List, [], ◌∷◌, ◌++◌, length, replicate, Option, None, inl, inr, sym, append_assoc, rules, arith}
use Rattle.std.proofs.lemmas.Bool.{cases_lt}
use Rattle.std.proofs.lemmas.Grind.{replicate_next}
use Rattle.std.proofs.lemmas.List.{take_more, take_all, get_or_past}
use Rattle.environment.specs.MemLink.{first_looks, look_at}

abbrev Looked : Type 0
Looked = List (Option (List ℕ))

-- before the end of the list
within : (n : ℕ) (xs : Looked) → n < length xs → first_looks (n + 1) xs ≡ first_looks n xs ++ look_at n xs ∷ []
within n xs lt =
    let left : (n + 1) - length xs ≡ 0 = omega arith in
    let before : n - length xs ≡ 0 = omega arith in
    rw (left, before, take_more xs n None lt) (search rules)

-- after the end of the list
past : (n : ℕ) (xs : Looked) → length xs ≤ n → first_looks (n + 1) xs ≡ first_looks n xs ++ look_at n xs ∷ []
past n xs le =
    let one : (n + 1) - length xs ≡ (n - length xs) + 1 = omega arith in
    rw (one, take_all (n + 1) xs (omega arith), take_all n xs le, get_or_past xs n None le, replicate_next {X = Option (List ℕ)} (n - length xs) None) (sym (append_assoc xs (replicate {A = Option (List ℕ)} (n - length xs) None) (None ∷ [])))

pub one_look_more : (n : ℕ) (xs : Looked) → first_looks (n + 1) xs ≡ first_looks n xs ++ look_at n xs ∷ []
one_look_more n xs = elim (cases_lt n (length xs)) [
  | inl lt ↦ within n xs lt
  | inr le ↦ past n xs le
]
