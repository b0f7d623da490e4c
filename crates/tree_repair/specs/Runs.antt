-- Where a number stands in a list of numbers that ascend, some of them more than once.
use Rattle.std.specs.Prelude.{◌≡◌, ◌≢◌, ◌≤◌, ◌<◌, ℕ, List, length, slice_index}
use Rattle.tree_repair.specs.declared.runs.Run.{Run}

-- from start to end the list has the number that stands at start, and at end it has another or ends
pub record Ends (ns : List ℕ) (start end : ℕ) : Type 0 where
  pub some : start < end
  pub within : end ≤ length ns
  pub same : (j : ℕ) → start ≤ j → j < end → slice_index ns j ≡ slice_index ns start
  pub other : end < length ns → slice_index ns end ≢ slice_index ns start

-- the number stands in the list exactly at the places from start to end
pub record IsRun (ns : List ℕ) (r : Run) : Type 0 where
  pub some : r.start < r.end
  pub within : r.end ≤ length ns
  pub inside : (j : ℕ) → r.start ≤ j → j < r.end → slice_index ns j ≡ r.number
  pub outside : (j : ℕ) → j < length ns → slice_index ns j ≡ r.number → (r.start ≤ j) × (j < r.end)
