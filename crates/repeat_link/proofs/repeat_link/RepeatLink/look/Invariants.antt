use Rattle.std.proofs.Common.{◌≡◌}
use Rattle.repeat_link.proofs.repeat_link.RepeatLink.look.Given as goal

abbrev pub invariant-loop : goal.invariant-loop
invariant-loop g l = l.self.faults ≡ l.initial.self.faults
