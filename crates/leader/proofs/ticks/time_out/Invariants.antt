use Rattle.std.proofs.Common.{◌≡◌, drop}
use Rattle.leader.specs.Ticks.{timed_out}
use Rattle.leader.proofs.ticks.time_out.Given as goal

abbrev pub invariant-loop-i : goal.invariant-loop-i
invariant-loop-i l = timed_out l.due l.initial.out ≡ timed_out (drop l.i l.due) l.out
