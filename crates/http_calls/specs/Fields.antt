-- Fields that may stand once.
use Rattle.std.specs.Prelude.{ℕ, List, [], ◌∷◌, Option, Some, None, Result, Ok, Err, if◌then◌else◌}
use Rattle.std.specs.Borrow.{Bor}
use Rattle.http1.specs.Fields.{Header, is_named}
use Rattle.http_calls.specs.declared.problem.Problem.{Problem}
use Rattle.http_calls.specs.declared.problem.Problem.TheVariants.{RepeatedField}

-- the value that was found, and one more
abbrev pub one_more : Option (List ℕ) → List ℕ → Result (Option (List ℕ)) Problem
one_more None value = Ok (Some value)
one_more (Some other) value = Err RepeatedField

abbrev pub then_rest : Result (Option (List ℕ)) Problem → (Option (List ℕ) → Result (Option (List ℕ)) Problem) → Result (Option (List ℕ)) Problem
then_rest (Ok found) rest = rest found
then_rest (Err e) rest = Err e

-- the value of the field with this name among the fields, after this was found before them
abbrev pub field_after : List ℕ → List Header → Option (List ℕ) → Result (Option (List ℕ)) Problem
field_after name [] found = Ok found
field_after name (h ∷ hs) found =
    if is_named name h then then_rest (one_more found h.1) (field_after name hs) else field_after name hs found

-- the value of the field with this name, if there is one; several are a problem
abbrev pub field_of : List ℕ → List Header → Result (Option (List ℕ)) Problem
field_of name fields = field_after name fields None

-- what a borrowed value is
abbrev pub seen_value : Option (Bor (List ℕ)) → Option (List ℕ)
seen_value None = None
seen_value (Some value) = Some value.now

abbrev pub seen : Result (Option (Bor (List ℕ))) Problem → Result (Option (List ℕ)) Problem
seen (Ok value) = Ok (seen_value value)
seen (Err e) = Err e
