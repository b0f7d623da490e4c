-- What a call that may lack memory answers.
use Rattle.std.specs.Prelude.{◌≡◌, Result, Ok, Err}
use Rattle.http_calls.specs.declared.problem.CallError.{CallError}
use Rattle.http_calls.specs.declared.problem.CallError.TheVariants.{Refused, Memory}
use Rattle.http_calls.specs.declared.problem.Problem.{Problem}

-- go on with the value, or stop at the problem
infixl 10 ◌>>=◌
abbrev pub ◌>>=◌ : {A B : Type 0} → Result A Problem → (A → Result B Problem) → Result B Problem
(Ok x) >>= f = f x
(Err e) >>= f = Err e

-- the call gives the value or the problem that it should, or is out of memory
abbrev pub Gives : {T : Type 0} → Result T Problem → Result T CallError → Type 0
Gives expected (Ok x) = expected ≡ Ok x
Gives expected (Err (Refused p)) = expected ≡ Err p
Gives expected (Err Memory) = Unit {0}
