-- What a hasher did with strings that it was given one after another.
use Rattle.std.specs.Prelude.{◌≡◌, ◌⊎◌, ◌≤◌, ℕ, List, [], ◌∷◌, Option, Result, Ok, Err}
use Rattle.hash_book.specs.Hashing.{Book, Takes, Stays, Refuses}
use Rattle.hash_book.specs.declared.error.HashError.{HashError}
use Rattle.hash_book.specs.declared.error.HashError.TheVariants.{Memory}

-- it admitted each of them
abbrev pub Admitted : {H : Type 0} → (H → Option Book) → (H → ℕ) → (H → ℕ) → List (List ℕ) → H → H → Type 0
Admitted kept clashes fulls [] s t = t ≡ s
Admitted {H} kept clashes fulls (x ∷ xs) s t = (u : H) × Takes x (kept s) (kept u) × (clashes s ≤ clashes u) × (fulls s ≤ fulls u) × Admitted kept clashes fulls xs u t

-- it admitted the first of them and rejected the next with this error, or memory ran out
abbrev pub Rejected : {H : Type 0} → (H → Option Book) → (H → ℕ) → (H → ℕ) → List (List ℕ) → H → HashError → H → Type 0
Rejected kept clashes fulls [] s e t = (e ≡ Memory) × (t ≡ s)
Rejected {H} kept clashes fulls (x ∷ xs) s e t = ((e ≡ Memory) × (t ≡ s)) ⊎ ((Stays (kept s) (kept t) × Refuses x (kept s) (clashes s) (clashes t) (fulls s) (fulls t) e)
    ⊎ ((u : H) × Takes x (kept s) (kept u) × (clashes s ≤ clashes u) × (fulls s ≤ fulls u) × Rejected kept clashes fulls xs u e t))

-- it admitted each of them, or the call failed where it rejected one or memory ran out
abbrev pub AdmitsAll : {A H : Type 0} → (H → Option Book) → (H → ℕ) → (H → ℕ) → List (List ℕ) → H → Result A HashError → H → Type 0
AdmitsAll kept clashes fulls xs s (Ok x) t = Admitted kept clashes fulls xs s t
AdmitsAll kept clashes fulls xs s (Err e) t = Rejected kept clashes fulls xs s e t
