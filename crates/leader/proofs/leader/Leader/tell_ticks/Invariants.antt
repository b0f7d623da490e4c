use Rattle.std.proofs.Common.{◌≡◌, ◌++◌}
use Rattle.leader.specs.Ticks.{ticks_up_to}
use Rattle.leader.proofs.leader.Leader.tell_ticks.Given as goal

abbrev pub invariant-loop-below : goal.invariant-loop-below
invariant-loop-below l = l.out ≡ record l.initial.out { sends = l.initial.out.sends ++ ticks_up_to l.finishing l.fact l.self l.below }
