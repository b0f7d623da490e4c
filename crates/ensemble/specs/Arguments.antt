-- The arguments of the program, as the system gives them.
use Rattle.std.specs.Prelude.{List, [], ◌∷◌, ℕ, map, Vec, Result, Ok, Err, string_bytes}
use Rattle.std.specs.declared.alloc.Global.{Global}
use Rattle.std.specs.declared.io.ErrorKind.{ErrorKind}
use Rattle.std.specs.declared.io.ErrorKind.TheVariants as kinds
use Rattle.std.specs.declared.string.String.{String}
use Rattle.ensemble.specs.declared.arguments.ArgumentsError.{ArgumentsError}
use Rattle.ensemble.specs.declared.arguments.ArgumentsError.TheVariants.{NotText, Memory}

-- why the system did not give the arguments: memory ran out, or one of them is no text
abbrev pub reason_of : ErrorKind → ArgumentsError
reason_of kinds.OutOfMemory = Memory
reason_of kind = NotText

-- the words after the first one, which is the name of the program
abbrev pub words_after_name : List (List ℕ) → List (List ℕ)
words_after_name [] = []
words_after_name (name ∷ words) = words

-- the words after the name of the program, or why the arguments could not be read
abbrev pub words_given : Result (Vec (String Global) Global) ArgumentsError → Result (List (List ℕ)) ArgumentsError
words_given (Ok all) = Ok (words_after_name (map string_bytes all.items))
words_given (Err e) = Err e
