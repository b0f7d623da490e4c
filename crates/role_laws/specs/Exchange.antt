-- The exchange of a sync, by parts of the keys.
use Rattle.std.specs.Prelude.{◌≡◌, ℕ, ◌<◌, ◌≤◌, Bool, true, false, ◌&&◌, List, ◌⊎◌}
use Rattle.protocol_laws.specs.Objects.{Map}
use Rattle.role_laws.specs.Syncs.{is_finished, Asking, Covered}

-- what counting a give may change: entries come from the map that it was made of, and each version of
-- that map that was covered still is
pub record Counts (shown scan : Map) (flag : Bool) (a b : Asking) : Type 0 where
  pub flagged : b.flagged ≡ (a.flagged && flag)
  pub from : (k : List ℕ) → (b.received k ≡ a.received k) ⊎ (b.received k ≡ shown k)
  pub keeps : (k : List ℕ) (v : ℕ) → 0 < v → v ≤ shown k → Covered a scan k v → Covered b scan k v
  pub done : is_finished b.stage ≡ true → (k : List ℕ) → b.left k ≡ false
