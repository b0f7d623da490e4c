-- Calls and answers under other numbers, and among others.
use Rattle.std.specs.Prelude.{◌≡◌, ◌<◌, ◌≤◌, ℕ, List}
use Rattle.ens_base.specs.Lists.{◌∈◌}
use Rattle.register_model.specs.Histories.{IsDone}
use Rattle.register_model.specs.declared.answer.Answer.{Answer}
use Rattle.register_model.specs.declared.call.Call.{Call}

-- a call and an answer, with the number of their event changed
abbrev pub numbered_call : (ℕ → ℕ) → Call → Call
numbered_call number c = record c { event = number c.event }

abbrev pub numbered_answer : (ℕ → ℕ) → Answer → Answer
numbered_answer number a = record a { event = number a.event }

-- The events are numbered from 1 to the greatest of them, and these numbers rise with them.
pub record RiseWith (number : ℕ → ℕ) (most : ℕ) (calls : List Call) (answers : List Answer) : Type 0 where
  pub rise : (x y : ℕ) → 1 ≤ x → x < y → y ≤ most → number x < number y
  pub first : (c : Call) → c ∈ calls → 1 ≤ c.event
  pub last : (a : Answer) → a ∈ answers → a.event ≤ most

-- These calls are among more. The other calls and answers have no part in the history of the key: none is a call
-- of the history or an answer to one, and none completes a call on the key.
pub record ArePart (calls : List Call) (answers : List Answer) (more_calls : List Call) (more_answers : List Answer) (key order : List ℕ) : Type 0 where
  pub among : (c : Call) → c ∈ calls → c ∈ more_calls
  pub called : (c : Call) → c ∈ more_calls → c.id ∈ order → c ∈ calls
  pub answered : (a : Answer) → a ∈ more_answers → a.id ∈ order → a ∈ answers
  pub completed : (c : Call) (a : Answer) → c ∈ more_calls → a ∈ more_answers → a.id ≡ c.id → c.key ≡ key → IsDone a.reply → (c ∈ calls) × (a ∈ answers)
