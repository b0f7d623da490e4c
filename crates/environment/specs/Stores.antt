-- The calls of stores and their answers, and the laws of fault counts and of the top record.
use Rattle.std.specs.Prelude.{◌≡◌, ◌⊎◌, ◌≤◌, ℕ, List, Option, None, Some, Result, Ok, Err}
use Rattle.ens_base.specs.Causes.{Rose}
use Rattle.environment.specs.declared.errors.StoreError.{StoreError}
use Rattle.environment.specs.declared.errors.StoreError.TheVariants.{Failed, Memory}

-- a call of a backend
pub data BackendCall : Type 0 where
  Get : (key : List ℕ) → BackendCall
  Put : (key bytes : List ℕ) → BackendCall

-- the type of the answer to a call of a backend
abbrev pub BackendAnswer : BackendCall → Type 0
BackendAnswer (Get key) = Option (List ℕ)
BackendAnswer (Put key bytes) = Unit {0}

-- a call of a node store
pub data NodeCall : Type 0 where
  Read : (digest : List ℕ) → NodeCall
  Write : (digest bytes : List ℕ) → NodeCall
  Top : NodeCall
  SetTop : (digest : List ℕ) → NodeCall

-- the type of the answer to a call of a node store
abbrev pub NodeAnswer : NodeCall → Type 0
NodeAnswer (Read digest) = Option (List ℕ)
NodeAnswer (Write digest bytes) = Unit {0}
NodeAnswer Top = Option (List ℕ)
NodeAnswer (SetTop digest) = Unit {0}

-- the fault count never falls; a store returns `Failed` only if the count rose, and running out of
-- memory leaves it unchanged
abbrev pub StoreCounts : {T : Type 0} → ℕ → ℕ → Result T StoreError → Type 0
StoreCounts before now (Ok x) = before ≤ now
StoreCounts before now (Err Failed) = (before ≤ now) × Rose before now
StoreCounts before now (Err Memory) = now ≡ before

-- the top record after `set_top`: this digest; after a failure of the store, this digest or what was
-- there before; when out of memory, what was there before
abbrev pub SetsTop : {T : Type 0} → Option (Option (List ℕ)) → Option (Option (List ℕ)) → List ℕ → Result T StoreError → Type 0
SetsTop None new digest result = Unit {0}
SetsTop (Some top) new digest (Ok x) = new ≡ Some (Some digest)
SetsTop (Some top) new digest (Err Failed) = (new ≡ Some top) ⊎ (new ≡ Some (Some digest))
SetsTop (Some top) new digest (Err Memory) = new ≡ Some top
