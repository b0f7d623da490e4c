-- The first fault of bytes: where it is, and what it depends on.
use Rattle.std.specs.Prelude.{◌≡◌, ◌-◌, ◌≤◌, ◌<◌, ℕ, List, ◌++◌, length, take, drop, Result, Err}
use Rattle.fields.specs.declared.field_error.FieldError.{FieldError}
use Rattle.fields.specs.declared.field_error.FieldError.TheVariants.{Short, Rule, Memory}
use Rattle.fields.specs.declared.fault.Fault.{Fault}
use Rattle.fields.specs.declared.fault.Fault.TheVariants.{Ended, Broken, NoMemory}
use Rattle.ens_base.specs.Limits.{IsBytes}

-- The bytes end inside the part at `place`: cut anywhere from that place on, they have the same fault.
pub record EndsInside {A E : Type 0} (read : List ℕ → ℕ → Result (A × ℕ) E) (bytes : List ℕ) (at place : ℕ) (e : E) : Type 0 where
  pub start : at ≤ place
  pub within : place ≤ length bytes
  pub cut : (n : ℕ) → place ≤ n → read (take n bytes) at ≡ Err e

-- The part from `place` to `end` breaks a rule. The fault does not depend on what follows that part, and
-- bytes that are cut before its end merely end too early, at that part.
pub record BreaksRule {A E : Type 0} (short : ℕ → E) (read : List ℕ → ℕ → Result (A × ℕ) E) (bytes : List ℕ) (at place end : ℕ) (e : E) : Type 0 where
  pub start : at ≤ place
  pub part : place < end
  pub within : end ≤ length bytes
  pub alike : (other : List ℕ) → take end other ≡ take end bytes → read other at ≡ Err e
  pub cut : (n : ℕ) → place ≤ n → n < end → (p : ℕ) × (place ≤ p) × (read (take n bytes) at ≡ Err (short p))

-- no valid value has a spelling that begins so
abbrev pub NoneBegins : {A : Type 0} → (A → Type 0) → (A → List ℕ) → List ℕ → Type 0
NoneBegins {A = A} IsValid spelling prefix = (x : A) (rest : List ℕ) → IsValid x → spelling x ≡ prefix ++ rest → ⊥

-- the fault of a field: its place is that of the first part that is cut short or breaks its rule
abbrev pub IsFirstFault : {A : Type 0} → (A → Type 0) → (A → List ℕ) → (List ℕ → ℕ → Result (A × ℕ) FieldError) → List ℕ → ℕ → FieldError → Type 0
IsFirstFault IsValid spelling read bytes at (Short p) = EndsInside read bytes at p (Short p)
IsFirstFault IsValid spelling read bytes at (Rule p) = (end : ℕ) × BreaksRule Short read bytes at p end (Rule p) × NoneBegins IsValid spelling (take (end - at) (drop at bytes))
IsFirstFault IsValid spelling read bytes at Memory = ⊥

-- whatever the bytes are, the fault that reading gives is the first one
abbrev pub FaultsFirst : {A : Type 0} → (A → Type 0) → (A → List ℕ) → (List ℕ → ℕ → Result (A × ℕ) FieldError) → Type 0
FaultsFirst IsValid spelling read = (bytes : List ℕ) (at : ℕ) (e : FieldError) → IsBytes bytes → at ≤ length bytes → read bytes at ≡ Err e → IsFirstFault IsValid spelling read bytes at e

-- the fault of a value that is made of fields, with the name of the rule
abbrev pub IsFirstNamed : {A R : Type 0} → (A → Type 0) → (A → List ℕ) → (List ℕ → ℕ → Result (A × ℕ) (Fault R)) → List ℕ → ℕ → Fault R → Type 0
IsFirstNamed IsValid spelling read bytes at (Ended p) = EndsInside read bytes at p (Ended p)
IsFirstNamed IsValid spelling read bytes at (Broken rule p) = (end : ℕ) × BreaksRule Ended read bytes at p end (Broken rule p) × NoneBegins IsValid spelling (take (end - at) (drop at bytes))
IsFirstNamed IsValid spelling read bytes at NoMemory = ⊥

abbrev pub NamesFirst : {A R : Type 0} → (A → Type 0) → (A → List ℕ) → (List ℕ → ℕ → Result (A × ℕ) (Fault R)) → Type 0
NamesFirst {R = R} IsValid spelling read = (bytes : List ℕ) (at : ℕ) (e : Fault R) → IsBytes bytes → at ≤ length bytes → read bytes at ≡ Err e → IsFirstNamed IsValid spelling read bytes at e
