-- When a call to the outside may fail.
use Rattle.std.specs.Prelude.{ℕ, ◌+◌, ◌-◌, ◌^◌, ◌≤◌, min, Result, OnErr}

-- one more, but never above the greatest u64
abbrev pub counted : ℕ → ℕ
counted n = min (n + 1) (2 ^ 64 - 1)

-- the count has risen by at least one, or has reached the greatest u64
abbrev pub Rose : ℕ → ℕ → Type 0
Rose before now = counted before ≤ now

-- the count never falls, and an error is returned only if it rose
pub record HasCause {T E : Type 0} (before now : ℕ) (result : Result T E) : Type 0 where
  pub later : before ≤ now
  pub failed : OnErr result (Rose before now)
