-- Readers made of readers.
use Rattle.std.specs.Prelude.{ℕ, List, Result, Ok}
use Rattle.fields.specs.declared.field_error.FieldError.{FieldError}
use Rattle.ens_base.specs.Results.{◌>>=◌}

-- one after the other
abbrev pub both : {A B : Type 0} → (List ℕ → ℕ → Result (A × ℕ) FieldError) → (List ℕ → ℕ → Result (B × ℕ) FieldError) → List ℕ → ℕ → Result ((A × B) × ℕ) FieldError
both first second bytes at = first bytes at >>= λ a. second bytes a.1 >>= λ b. Ok ((a.0, b.0), b.1)

-- what is made of what was read
abbrev pub made : {A B : Type 0} → (A → B) → (List ℕ → ℕ → Result (A × ℕ) FieldError) → List ℕ → ℕ → Result (B × ℕ) FieldError
made make read bytes at = read bytes at >>= λ x. Ok (make x.0, x.1)
