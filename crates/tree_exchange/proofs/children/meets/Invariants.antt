use Rattle.std.proofs.Common.{◌≡◌, drop}
use Rattle.tree_exchange.specs.Asks.{meets}
use Rattle.tree_exchange.proofs.children.meets.Given as goal

abbrev pub invariant-loop-position : goal.invariant-loop-position
invariant-loop-position l = meets l.positions l.at ≡ meets (drop l.position-index l.positions) l.at
