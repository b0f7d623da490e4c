-- Reading at a place gives the value that stands there and the place after it, or the first fault.
use Rattle.std.specs.Prelude.{◌≡◌, Result, Ok, Err}
use Rattle.fields.specs.declared.field_error.FieldError.{FieldError}
use Rattle.fields.specs.declared.field_error.FieldError.TheVariants.{Short, Rule, Memory}

abbrev pub Fails : {X : Type 0} → FieldError → Result X FieldError → Type 0
Fails (Short at) read = read ≡ Err (Short at)
Fails (Rule at) read = read ≡ Err (Rule at)
Fails Memory read = Unit {0}

-- a call answered what reading gives, unless memory ran out
abbrev pub Gives : {X : Type 0} → Result X FieldError → Result X FieldError → Type 0
Gives (Ok x) read = read ≡ Ok x
Gives (Err e) read = Fails e read
