-- The fault count of a disk.
use Rattle.std.specs.Prelude.{◌≡◌, ◌≤◌, ℕ, Result, Ok, Err}
use Rattle.ens_base.specs.Causes.{counted, Rose}

-- a call that succeeds leaves the count unchanged, and one that fails has raised it
abbrev pub CountsFaults : {T E : Type 0} → ℕ → ℕ → Result T E → Type 0
CountsFaults before now (Ok x) = now ≡ before
CountsFaults before now (Err e) = (before ≤ now) × Rose before now

-- exactly the calls that fail are counted, each once
abbrev pub CountsEach : {T E : Type 0} → ℕ → ℕ → Result T E → Type 0
CountsEach before now (Ok x) = now ≡ before
CountsEach before now (Err e) = now ≡ counted before
