use Rattle.std.proofs.Common.{◌≡◌}
use Rattle.repeat_link.proofs.repeat_link.RepeatLink.sweep.Given as goal

abbrev pub invariant-loop-to : goal.invariant-loop-to
invariant-loop-to g l = l.self.faults ≡ l.initial.self.faults
