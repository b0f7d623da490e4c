use Rattle.std.proofs.Common.{◌≤◌}
use Rattle.benchmarks.proofs.frames.decoded.Given as goal

abbrev pub invariant-loop : goal.invariant-loop
invariant-loop l = l.frames ≤ l.counter
