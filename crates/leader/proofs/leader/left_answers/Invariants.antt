use Rattle.std.proofs.Common.{◌≡◌, ◌++◌, map, drop}
use Rattle.leader.specs.Ticks.{left_answer}
use Rattle.leader.proofs.leader.left_answers.Given as goal

abbrev pub invariant-loop-i : goal.invariant-loop-i
invariant-loop-i l = map left_answer l.calls ≡ l.answers.items ++ map left_answer (drop l.i l.calls)
