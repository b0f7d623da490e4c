-- A view: its members in ascending order.
use Rattle.std.specs.Prelude.{◌≤◌, ℕ, List, length, All}
use Rattle.std.specs.List.Sorted.{IsStrictlyIncreasing}

-- a valid number of a peer
abbrev pub IsPeer : ℕ → Type 0
IsPeer m = (1 ≤ m) × (m ≤ 31)

-- a valid number of members
abbrev pub IsViewSize : ℕ → Type 0
IsViewSize n = (1 ≤ n) × (n ≤ 9)

-- 1 to 9 peers, strictly ascending
pub record IsView (xs : List ℕ) : Type 0 where
  pub size : IsViewSize (length xs)
  pub peers : All IsPeer xs
  pub ascends : IsStrictlyIncreasing xs
