use Rattle.std.specs.Prelude.{true}
use Rattle.phase_rows.proofs.Filled.{IsFilled}
use Rattle.world_model.proofs.applying.all_peers.Given as goal

abbrev pub invariant-loop-number : goal.invariant-loop-number
invariant-loop-number l = IsFilled (λ p. true) l.number l.set
