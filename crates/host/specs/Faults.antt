-- Which calls of a link count a fault.
use Rattle.std.specs.Prelude.{◌≡◌, ℕ, Result, Ok, Err}
use Rattle.ens_base.specs.Causes.{counted}
use Rattle.environment.specs.declared.errors.LinkError.{LinkError}
use Rattle.environment.specs.declared.errors.LinkError.TheVariants.{Failed, Memory}

-- one fault is counted exactly where the answer is `Failed`
abbrev pub CountsExactly : {T : Type 0} → ℕ → ℕ → Result T LinkError → Type 0
CountsExactly before now (Ok x) = now ≡ before
CountsExactly before now (Err Failed) = now ≡ counted before
CountsExactly before now (Err Memory) = now ≡ before
