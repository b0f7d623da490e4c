-- Which numbers came, as a receiver keeps and tells it.
use Rattle.std.specs.Prelude.{◌≡◌, ◌≤◌, ◌+◌, ◌-◌, ◌==◌, ◌&&◌, ◌||◌, ℕ, Bool, false, max, nat_lt, List, [], ◌∷◌}
use Rattle.std.specs.Int.{bit_at}
use Rattle.repeat_link.specs.declared.received.Received.{Received}

-- whether the number is told to have come: it is the greatest, or its bit is set
abbrev pub came : Received → ℕ → Bool
came r n = n == r.greatest || (nat_lt n r.greatest && bit_at r.bits (r.greatest - 1 - n) == 1)

-- whether the number is further below the greatest than is told of
abbrev pub is_past : Received → ℕ → Bool
is_past r n = nat_lt 64 (r.greatest - n)

-- whether a frame of this number is dropped
abbrev pub is_old : Received → ℕ → Bool
is_old r n = came r n || is_past r n

-- the number came too, and nothing else did; of what is now past, nothing is said
pub record Takes (r : Received) (n : ℕ) (s : Received) : Type 0 where
  pub greatest : s.greatest ≡ max r.greatest n
  pub told : (m : ℕ) → s.greatest ≤ m + 64 → came s m ≡ (m == n || came r m)

-- the numbers were taken one after the other, each while it was not old
abbrev pub Took : Received → List ℕ → Received → Type 0
Took r [] s = s ≡ r
Took r (n ∷ ns) s = (t : Received) × (is_old r n ≡ false) × Takes r n t × Took t ns s
