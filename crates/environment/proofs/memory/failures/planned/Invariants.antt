use Rattle.std.proofs.Common.{◌≡◌, drop}
use Rattle.environment.specs.Failures.{planned}
use Rattle.environment.proofs.memory.failures.planned.Given as goal

abbrev pub invariant-loop-fault : goal.invariant-loop-fault
invariant-loop-fault l = planned l.call l.listed ≡ planned l.call (drop l.fault-index l.listed)
