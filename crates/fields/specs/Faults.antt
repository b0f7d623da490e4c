-- Faults that say which rule was broken.
use Rattle.std.specs.Prelude.{◌≡◌, Result, Ok, Err}
use Rattle.fields.specs.declared.field_error.FieldError.{FieldError}
use Rattle.fields.specs.declared.field_error.FieldError.TheVariants.{Short, Rule, Memory}
use Rattle.fields.specs.declared.fault.Fault.{Fault}
use Rattle.fields.specs.declared.fault.Fault.TheVariants.{Ended, Broken, NoMemory}

-- the same answer, with a name for the rule that a field breaks
abbrev pub with_rule : {X R : Type 0} → R → Result X FieldError → Result X (Fault R)
with_rule rule (Ok x) = Ok x
with_rule rule (Err (Short at)) = Err (Ended at)
with_rule rule (Err (Rule at)) = Err (Broken rule at)
with_rule rule (Err Memory) = Err NoMemory

-- the answer names no broken rule
abbrev pub BreaksNoRule : {X : Type 0} → Result X FieldError → Type 0
BreaksNoRule (Ok x) = Unit {0}
BreaksNoRule (Err (Short at)) = Unit {0}
BreaksNoRule (Err (Rule at)) = ⊥
BreaksNoRule (Err Memory) = Unit {0}

-- the same answer of a field that breaks no rule: it ends in time or not
abbrev pub plain : {X R : Type 0} → Result X FieldError → Result X (Fault R)
plain (Ok x) = Ok x
plain (Err (Short at)) = Err (Ended at)
plain (Err (Rule at)) = Err (Ended at)
plain (Err Memory) = Err NoMemory

-- the same answer, without the name of the rule
abbrev pub without_rule : {X R : Type 0} → Result X (Fault R) → Result X FieldError
without_rule (Ok x) = Ok x
without_rule (Err (Ended at)) = Err (Short at)
without_rule (Err (Broken rule at)) = Err (Rule at)
without_rule (Err NoMemory) = Err Memory

abbrev pub Faults : {X R : Type 0} → Fault R → Result X (Fault R) → Type 0
Faults (Ended at) read = read ≡ Err (Ended at)
Faults (Broken rule at) read = read ≡ Err (Broken rule at)
Faults NoMemory read = Unit {0}

-- a call answered what reading gives, unless memory ran out
abbrev pub Finds : {X R : Type 0} → Result X (Fault R) → Result X (Fault R) → Type 0
Finds (Ok x) read = read ≡ Ok x
Finds (Err e) read = Faults e read
