-- The planned failures of a store in memory, and its counts.
use Rattle.std.specs.Prelude.{ℕ, ◌==◌, if◌then◌else◌, List, [], ◌∷◌, Option, None, Some}
use Rattle.environment.specs.declared.memory.failing_call.Leaves.{Leaves}
use Rattle.environment.specs.declared.memory.failing_call.Leaves.TheVariants.{Old, New}
use Rattle.environment.specs.declared.memory.failing_call.FailingCall.{FailingCall}
use Rattle.ens_base.specs.Causes.{counted}

-- the planned failures, the number of calls so far, and the number of those that failed
pub record Plan : Type 0 where
  pub listed : List FailingCall
  pub calls : ℕ
  pub faults : ℕ

-- what the call of this number leaves behind, if it is listed; the first entry with its number
-- counts
abbrev pub planned : ℕ → List FailingCall → Option Leaves
planned call [] = None
planned call (f ∷ fs) = if f.call == call then Some f.leaves else planned call fs

-- what the next call leaves behind, if it is planned to fail
abbrev pub next_failure : Plan → Option Leaves
next_failure p = planned (counted p.calls) p.listed

-- after a call
abbrev pub called : Plan → Plan
called p = record p { calls = counted p.calls }

-- after a call that failed
abbrev pub failed : Plan → Plan
failed p = record p { calls = counted p.calls; faults = counted p.faults }

-- the state that a failed call leaves: the one before the call, or the one after its effect
abbrev pub left_by : {S : Type 0} → Leaves → S → S → S
left_by Old before after = before
left_by New before after = after
