-- Why a call of the exchange failed.
use Rattle.std.specs.Prelude.{ℕ}
use Rattle.ens_base.specs.Causes.{Rose}
use Rattle.tree_exchange.specs.declared.error.AskError.{AskError}
use Rattle.tree_exchange.specs.declared.error.AskError.TheVariants.{Store, Clash, BookFull, Memory}

-- Why a call failed that led the store and the hasher from s to t: the store's count of faults rose,
-- or the hasher's count of clashes, or its count of strings that did not fit, or out of memory.
abbrev pub IsCause : {N H : Type 0} → (N → ℕ) → (H → ℕ) → (H → ℕ) → N × H → N × H → AskError → Type 0
IsCause faults clashes fulls s t Store = Rose (faults s.0) (faults t.0)
IsCause faults clashes fulls s t (Clash first second) = Rose (clashes s.1) (clashes t.1)
IsCause faults clashes fulls s t (BookFull kept) = Rose (fulls s.1) (fulls t.1)
IsCause faults clashes fulls s t Memory = Unit {0}
