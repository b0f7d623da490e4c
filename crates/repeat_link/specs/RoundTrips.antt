-- How long an acknowledgement is waited for.
use Rattle.std.specs.Prelude.{ℕ, ◌+◌, ◌-◌, ◌*◌, ◌/◌, min, max, Option, None, Some}

-- the smoothed round trip after one more was measured
abbrev pub smoothed : Option ℕ → ℕ → ℕ
smoothed None sample = sample
smoothed (Some old) sample = old - old / 8 + sample / 8

-- twice the smoothed round trip, but at least 5 ms, and never more than `most`
abbrev pub first_wait : Option ℕ → ℕ → ℕ
first_wait None most = most
first_wait (Some trip) most = min (max (2 * trip) 5000) most
