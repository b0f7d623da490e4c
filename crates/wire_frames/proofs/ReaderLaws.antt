-- The grammars of readers made of readers, and of a choice by a tag.
use Rattle.std.proofs.Common.{◌≡◌, ℕ, ◌+◌, ◌<◌, Bool, true, false, cond, eqb, List, [], ◌∷◌, ◌++◌, length, Result, Ok, Err, refl, sym, ap, subst, ◌∙◌}
use Rattle.std.proofs.lemmas.Bool.{eqb-true, eqb-false}
use Rattle.fields.specs.declared.field_error.FieldError.{FieldError}
use Rattle.fields.specs.Places.{Spells}
use Rattle.ens_base.specs.Results.{◌>>=◌}
use Rattle.fields.specs.Grammar.{IsGrammar}
use Rattle.fields.specs.Numbers.{byte_at}
use Rattle.fields.proofs.GrammarLaws.{Reader, bind_ok, ok_is, right, valid_as, spelled_as, field_then, field_last, nothing}
use Rattle.fields.proofs.NumberLaws.{byte_grammar}
use Rattle.fields.proofs.ViewLaws.{err_is_no}
use Rattle.wire_frames.specs.Readers.{both, made}

pub both_grammar : {A B : Type 0} {IsA : A → Type 0} {IsB : B → Type 0} {a_spelling : A → List ℕ} {b_spelling : B → List ℕ} {read_a : Reader A FieldError} {read_b : Reader B FieldError}
    → IsGrammar IsA a_spelling read_a → IsGrammar IsB b_spelling read_b → IsGrammar (λ (x : A × B). IsA x.0 × IsB x.1) (λ (x : A × B). a_spelling x.0 ++ b_spelling x.1) (both read_a read_b)
both_grammar {A = A} {B = B} {IsA = IsA} {IsB = IsB} {a_spelling = a_spelling} {b_spelling = b_spelling} {read_a = read_a} {read_b = read_b} g h =
    let parts : IsGrammar (λ (x : A × B). Unit {0} × (IsA x.0 × IsB x.1)) (λ (x : A × B). a_spelling x.0 ++ b_spelling x.1) (both read_a read_b) =
    field_then g (λ (x : A × B). x.0) _
    (λ a _ _. field_last h (λ (x : A × B). x.1) (λ b. (a, b)) {P = λ x. Unit {0} × (x.0 ≡ a)} (λ _. refl) (λ _. (tt, refl)) (λ x e i. (sym e.1 i, x.1))) in
    valid_as (λ x v. v.1) (λ x v. (tt, v)) parts

-- a variant of a type that is told apart by its tag, made of a value that it holds
pub variant_grammar : {T M : Type 0} {IsT : T → Type 0} {t_spelling : T → List ℕ} {read : Reader T FieldError} → IsGrammar IsT t_spelling read
    → (tag : M → ℕ) (IsM : M → Type 0) (spelling : M → List ℕ) (make : T → M) (k : ℕ) → ((t : T) → tag (make t) ≡ k) → ((m : M) → tag m ≡ k → (t : T) × (make t ≡ m))
    → ((t : T) → IsT t → IsM (make t)) → ((t : T) → IsM (make t) → IsT t) → ((t : T) → t_spelling t ≡ spelling (make t)) → IsGrammar (λ m. (tag m ≡ k) × IsM m) spelling (made make read)
variant_grammar {T = T} {M = M} {IsT = IsT} {t_spelling = t_spelling} {read = read} g tag IsM spelling make k tagged known to from same = record {
  found = λ bytes at x end fits e.
      let step = bind_ok (read bytes at) (λ (y : T × ℕ). Ok (make y.0, y.1)) (x, end) e in
      let first = g.found bytes at step.0.0 step.0.1 fits step.1 in
      let is : (make step.0.0, step.0.1) ≡ (x, end) = ok_is FieldError (make step.0.0, step.0.1) (x, end) step.2 in
      subst (λ (p : M × ℕ). Spells bytes at (spelling p.0) p.1 × ((tag p.0 ≡ k) × IsM p.0)) is
      (subst (λ (s : List ℕ). Spells bytes at s step.0.1) (same step.0.0) first.0, (tagged step.0.0, to step.0.0 first.1));
  again = λ bytes at x rest good e.
      let held = known x good.0 in
      let t = held.0 in
      let spelled : spelling x ≡ t_spelling held.0 = ap spelling (sym held.1) ∙ sym (same held.0) in
      let first = g.again bytes at held.0 rest (from held.0 (subst IsM (sym held.1) good.1)) (e ∙ ap (λ (s : List ℕ). s ++ rest) spelled) in
      ap (λ (r : Result (T × ℕ) FieldError). r >>= λ y. Ok (make y.0, y.1)) first ∙ ap (λ (m : M). right FieldError (m, at + length (t_spelling held.0))) held.1 ∙ ap (λ (s : List ℕ). right FieldError (x, at + length s)) (sym spelled);
}

-- a variant that holds nothing
pub empty_grammar : {M : Type 0} (tag : M → ℕ) (IsM : M → Type 0) (spelling : M → List ℕ) (m : M) (k : ℕ) → tag m ≡ k → ((x : M) → tag x ≡ k → m ≡ x) → IsM m → spelling m ≡ [] → IsGrammar {E = FieldError} (λ x. (tag x ≡ k) × IsM x) spelling (λ bytes at. Ok (m, at))
empty_grammar {M = M} tag IsM spelling m k tagged known valid empty =
    valid_as (λ x e. subst (λ (y : M). (tag y ≡ k) × IsM y) e (tagged, valid)) (λ x h. known x h.0)
    (spelled_as (λ x e. sym (ap spelling (sym e) ∙ empty)) (nothing m))

-- the reader for the tag k, or the others
pub choice : {M : Type 0} (tag : M → ℕ) (IsM : M → Type 0) (spelling : M → List ℕ) (t k : ℕ) {this others : Reader M FieldError}
    → IsGrammar (λ m. (tag m ≡ k) × IsM m) spelling this → ((t ≡ k → ⊥) → IsGrammar (λ m. (tag m ≡ t) × IsM m) spelling others)
    → IsGrammar (λ m. (tag m ≡ t) × IsM m) spelling (λ bytes at. cond (eqb t k) (this bytes at) (others bytes at))
choice {M = M} tag IsM spelling t k {this = this} {others = others} g h = by (eqb t k) refl
  where
    by : (b : Bool) → eqb t k ≡ b → IsGrammar (λ m. (tag m ≡ t) × IsM m) spelling (λ bytes at. cond b (this bytes at) (others bytes at))
    by true e = let is : t ≡ k = eqb-true _ _ e in valid_as (λ m v. (v.0 ∙ sym is, v.1)) (λ m v. (v.0 ∙ is, v.1)) g
    by false e = h (eqb-false _ _ e)

-- no variant has this tag
pub no_choice : {M : Type 0} (tag : M → ℕ) (IsM : M → Type 0) (spelling : M → List ℕ) (t : ℕ) (fault : ℕ → FieldError) → ((m : M) → tag m ≡ t → ⊥) → IsGrammar (λ m. (tag m ≡ t) × IsM m) spelling (λ bytes at. Err (fault at))
no_choice tag IsM spelling t fault none = record {
  found = λ bytes at x end fits e. absurd (err_is_no (fault at) (x, end) e);
  again = λ bytes at x rest good e. absurd (none x good.0);
}

-- a tag of one byte, and the variant that it says
pub tagged_grammar : {M : Type 0} (tag : M → ℕ) (IsM : M → Type 0) (rest_spelling : M → List ℕ) → ((m : M) → tag m < 256) → (next : ℕ × ℕ → ℕ → List ℕ → Result (M × ℕ) FieldError)
    → ((t start : ℕ) → IsGrammar (λ m. (tag m ≡ t) × IsM m) rest_spelling (λ bytes at. next (t, at) start bytes))
    → IsGrammar IsM (λ m. tag m ∷ rest_spelling m) (λ bytes at. byte_at bytes at >>= λ x. next x at bytes)
tagged_grammar {M = M} tag IsM rest_spelling small next g =
    let parts : IsGrammar (λ (m : M). Unit {0} × ((tag m < 256) × IsM m)) (λ m. tag m ∷ rest_spelling m) (λ bytes at. byte_at bytes at >>= λ x. next x at bytes) =
    field_then byte_grammar tag next (λ t start _. valid_as (λ m h. ((tt, h.0), h.1)) (λ m h. (h.0.1, h.1)) (g t start)) in
    valid_as (λ m h. h.1.1) (λ m h. (tt, (small m, h))) parts
