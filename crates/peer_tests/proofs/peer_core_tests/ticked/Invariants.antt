use Rattle.std.proofs.Common.{◌≡◌}
use Rattle.peer_tests.proofs.peer_core_tests.ticked.Given as goal

abbrev pub invariant-loop-tick : goal.invariant-loop-tick
invariant-loop-tick g l = l.peer.me ≡ l.fn.peer.me
