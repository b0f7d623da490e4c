-- A swap is what its old value and its new one give.
use Rattle.std.proofs.Common.{◌≡◌, ℕ, ◌-◌, false, not, cond, ◌||◌, List, length, take, drop, Result, Ok, Err, nat_lt, ap, arith, codes, length-drop}
use Rattle.std.specs.Str.{bytes_eq}
use Rattle.std.proofs.lemmas.List.{take_all}
use Rattle.ens_base.specs.declared.command.Command.{Command}
use Rattle.ens_base.specs.declared.command.Command.TheVariants.{Swap}
use Rattle.http_calls.specs.declared.problem.CallError.{CallError}
use Rattle.http_calls.specs.declared.problem.CallError.TheVariants.{Refused, Memory}
use Rattle.http_calls.specs.declared.problem.Problem.{Problem}
use Rattle.http_calls.specs.declared.problem.Problem.TheVariants.{BadParameter}
use Rattle.http_calls.specs.Calls.{swap_of}
use Rattle.http_calls.specs.Outcomes.{◌>>=◌, Gives}
use Rattle.http_calls.specs.Targets.{value_of, escaped_value}

pub slice_rest : (at : ℕ) (bytes : List ℕ) → take (length bytes - at) (drop at bytes) ≡ drop at bytes
slice_rest at bytes = take_all _ _ (omega (arith, length-drop {A = ℕ}))

abbrev pub swapped : Result (List ℕ) Problem → List ℕ → Result Command Problem
swapped old body = old >>= (λ o. value_of body >>= (λ value. Ok (Swap o value)))

pub swap_is : (query body : List ℕ) → (nat_lt (length query) 12 || not (bytes_eq (take 12 query) (codes "do=swap&old="))) ≡ false → swap_of query body ≡ swapped (escaped_value (drop 12 query)) body
swap_is query body is = ap (λ b. cond b (Err BadParameter) (swapped (escaped_value (drop 12 query)) body)) is

pub no_old : (old : Result (List ℕ) Problem) (body : List ℕ) (e : CallError) → Gives {T = List ℕ} old (Err e) → Gives {T = Command} (swapped old body) (Err e)
no_old old body (Refused p) is = ap (λ o. swapped o body) is
no_old old body Memory is = tt

pub no_value : (old body : List ℕ) (e : CallError) → Gives {T = List ℕ} (value_of body) (Err e) → Gives {T = Command} (swapped (Ok old) body) (Err e)
no_value old body (Refused p) is = ap (λ v. v >>= (λ value. Ok (Swap old value))) is
no_value old body Memory is = tt
