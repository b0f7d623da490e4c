-- The fact of a peer in memory: what it keeps and answers.
use Rattle.std.specs.Prelude.{◌≡◌, Option, Result}
use Rattle.fact_store.specs.Keeping.{IsBad, KeeperAnswer, KeeperCall, Load, Save}
use Rattle.fact_store.specs.Memory.{kept_of}
use Rattle.fact_store.specs.declared.error.KeepError.{KeepError}
use Rattle.fact_store.specs.declared.kept.Kept.TheVariants as kinds
use Rattle.stored_formats.specs.declared.fact_error.FactError.{FactError}
use Rattle.stored_formats.specs.declared.saved.SavedFact.{SavedFact}
use Rattle.fact_store.specs.declared.delayed_fact.DelayedFact.{DelayedFact}

-- what it keeps
abbrev pub held_kept : DelayedFact → Option (Result SavedFact FactError)
held_kept h = kept_of h.kept

-- a load changes nothing, and a saved fact is kept
abbrev pub HeldAnswers : DelayedFact → (call : KeeperCall) → KeeperAnswer call → DelayedFact → Type 0
HeldAnswers h Load answer k = k ≡ h
HeldAnswers h (Save fact) answer k = k.kept ≡ kinds.Fact fact

-- a load is refused only where what is kept is no fact, and changes nothing; no save is refused
abbrev pub HeldRefuses : DelayedFact → KeeperCall → KeepError → DelayedFact → Type 0
HeldRefuses h Load error k = IsBad error × (k ≡ h)
HeldRefuses h (Save fact) error k = ⊥
