use Rattle.std.proofs.Common.{◌≡◌, ◌≤◌, ◌<◌, ◌-◌, ◌++◌, length, drop, get_or, map}
use Rattle.std.specs.Prelude.{nat_eq}
use Rattle.std.specs.List.{All, dedup}
use Rattle.tree_repair.specs.Runs.{IsRun}
use Rattle.tree_repair.proofs.runs.runs_of.Given as goal

abbrev pub invariant-loop-start : goal.invariant-loop-start
invariant-loop-start l = record {
  within : l.start ≤ length l.numbers;
  apart : 0 < l.start → l.start < length l.numbers → get_or l.numbers (l.start - 1) 0 < get_or l.numbers l.start 0;
  numbers : map (λ r. r.number) l.runs.items ++ dedup nat_eq (drop l.start l.numbers) ≡ dedup nat_eq l.numbers;
  each : All (IsRun l.numbers) l.runs.items;
}

abbrev pub decreases-loop-start : goal.decreases-loop-start
decreases-loop-start l = length l.numbers - l.start
