-- The fact of a peer of a schedule.
use Rattle.std.specs.Prelude.{◌≡◌, Option, Some, None, Result, Ok}
use Rattle.environment.specs.Failures.{left_by}
use Rattle.environment.specs.declared.memory.failing_call.Leaves.{Leaves}
use Rattle.fact_store.specs.Keeping.{KeeperCall, KeeperAnswer, Load, Save}
use Rattle.fact_store.specs.declared.error.KeepError.{KeepError}
use Rattle.fact_store.specs.declared.error.KeepError.TheVariants.{Failed}
use Rattle.stored_formats.specs.declared.fact_error.FactError.{FactError}
use Rattle.stored_formats.specs.declared.saved.SavedFact.{SavedFact}
use Rattle.world_stores.specs.Faults.{spent}
use Rattle.world_stores.specs.declared.fact.HeldFact.{HeldFact}

-- the kept fact, as a keeper reports it
abbrev pub kept_of : Option SavedFact → Option (Result SavedFact FactError)
kept_of None = None
kept_of (Some fact) = Some (Ok fact)

-- the failure that a call meets: a load meets none, and a save the one that waits
abbrev pub refusal : HeldFact → KeeperCall → Option Leaves
refusal s Load = None
refusal s (Save fact) = s.faults.pending

-- the answer to a call
abbrev pub answer : HeldFact → (call : KeeperCall) → KeeperAnswer call
answer s Load = s.kept
answer s (Save fact) = tt

-- the keeper after a call that took effect
abbrev pub after : HeldFact → KeeperCall → HeldFact
after s Load = s
after s (Save fact) = record s { kept = Some fact }

-- a call that meets no failure returns the answer, and takes effect
abbrev pub FactDoes : HeldFact → (call : KeeperCall) → KeeperAnswer call → HeldFact → Type 0
FactDoes s call a t = (refusal s call ≡ None) × (a ≡ answer s call) × (t ≡ after s call)

-- a call that meets a failure has its effect or none; there is no other error
abbrev pub FactRefuses : HeldFact → KeeperCall → KeepError → HeldFact → Type 0
FactRefuses s call Failed t = (leaves : Leaves) × (refusal s call ≡ Some leaves) × (t ≡ record (left_by leaves s (after s call)) { faults = spent s.faults })
FactRefuses s call e t = ⊥
