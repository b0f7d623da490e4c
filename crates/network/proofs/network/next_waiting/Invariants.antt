use Rattle.network.specs.Representation.{AreSettled}
use Rattle.network.proofs.network.next_waiting.Given as goal

abbrev pub invariant-loop-number : goal.invariant-loop-number
invariant-loop-number l = AreSettled l.waiting l.number
