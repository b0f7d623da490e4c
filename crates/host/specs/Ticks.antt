-- What asking a ticker does.
use Rattle.std.specs.Prelude.{◌≡◌, ◌≤◌, ◌-◌, ℕ, Bool, true, false, Option, None, Some}
use Rattle.std.specs.declared.time.Instant.{Instant}
use Rattle.std.specs.Time.{instant_nanos}

-- a tick is due only if so many nanoseconds have passed since the last one, and then the next counts
-- from now on; where none is due, the last one stays
abbrev pub Asked : ℕ → Option Instant → Bool → Option Instant → Type 0
Asked every None due new = due ≡ false
Asked every (Some last) true None = ⊥
Asked every (Some last) true (Some now) = every ≤ instant_nanos now - instant_nanos last
Asked every (Some last) false new = new ≡ Some last
