-- Steps that call the store of the fact alone.
use Rattle.std.specs.Prelude.{◌≤◌, ℕ}
use Rattle.ens_base.specs.Causes.{Rose}
use Rattle.peer_stores.specs.Stores.{FactsAlone}
use Rattle.peer_stores.specs.declared.stores.Stores.{Stores}
use Rattle.step_plans.specs.Calls.{Call, Save}
use Rattle.step_plans.specs.Plans.{Ending, Finished, Stopped}
use Rattle.step_plans.specs.declared.error.PeerError.TheVariants.{Memory, StoreFault}

-- the call saves the fact
abbrev pub IsSave : Call → Type 0
IsSave (Save fact) = Unit {0}
IsSave other = ⊥

-- the step ended well, or out of memory, or a store failed whose count of faults rose from the one number to the other
abbrev pub IsFactError : {X : Type 0} → ℕ → ℕ → Ending X → Type 0
IsFactError before now (Finished x out) = Unit {0}
IsFactError before now (Stopped Memory) = Unit {0}
IsFactError before now (Stopped StoreFault) = Rose before now
IsFactError before now (Stopped e) = ⊥

-- no store but that of the fact was called, nor the hasher; if the step failed, this store did, and counted it
pub record BlamesTheFact {X B N F H : Type 0} (faults : F → ℕ) (s : Stores B N F × H) (end : Ending X) (t : Stores B N F × H) : Type 0 where
  pub alone : FactsAlone s t
  pub later : faults s.0.facts ≤ faults t.0.facts
  pub error : IsFactError (faults s.0.facts) (faults t.0.facts) end
