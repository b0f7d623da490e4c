-- What a client may conclude from the status of the answer to its call, and what replies say of calls.
use Rattle.std.specs.Prelude.{ℕ, Bool, true, false, ◌&&◌, ◌||◌, Option, Some, None, nat_le, nat_lt, ◌==◌, if◌then◌else◌}
use Rattle.ens_base.specs.declared.reply.Reply.{Reply}
use Rattle.ens_base.specs.declared.reply.Reply.TheVariants.{Value, NotFound, Ok, Failed, Unavailable, Busy, Lost, Timeout}
use Rattle.http_calls.specs.declared.problem.Problem.{Problem}
use Rattle.http_calls.specs.declared.problem.Problem.TheVariants.{Silent}

-- the call is completed as it was asked; it is completed and changed nothing; it had no effect; or nobody knows
pub data Meaning : Type 0 where
  Completed Unchanged NoEffect Unknown : Meaning

-- what a reply says of its call
abbrev pub meaning_of : Reply → Meaning
meaning_of (Value v value) = Completed
meaning_of (Ok v) = Completed
meaning_of NotFound = Unchanged
meaning_of Failed = Unchanged
meaning_of Unavailable = NoEffect
meaning_of Busy = NoEffect
meaning_of Lost = NoEffect
meaning_of Timeout = Unknown

-- a success, or a value that the client has
abbrev pub is_success : ℕ → Bool
is_success status = (nat_le 200 status && nat_lt status 300) || (status == 304)

abbrev pub is_unchanged : ℕ → Bool
is_unchanged status = (status == 404) || ((status == 409) || (status == 412))

abbrev pub is_without_effect : ℕ → Bool
is_without_effect status = (status == 307) || ((status == 500) || ((status == 503) || (status == 507)))

-- what the status of the answer to a call says, by its number alone
abbrev pub status_says : ℕ → Option Meaning
status_says status =
    if is_success status then Some Completed
    else (if is_unchanged status then Some Unchanged
    else (if is_without_effect status then Some NoEffect
    else (if status == 504 then Some Unknown else None)))

-- what a problem says of the call that the request would have made
abbrev pub problem_meaning : Problem → Meaning
problem_meaning Silent = Unknown
problem_meaning other = NoEffect

-- a success is never told of a call that was not completed
abbrev pub is_silent : Problem → Bool
is_silent Silent = true
is_silent other = false
