use Rattle.std.proofs.Common.{◌≡◌, ◌++◌, map, take, drop}
use Rattle.tree_sync.specs.Asks.{resumed}
use Rattle.tree_sync.proofs.running.resume_all.Given as goal

abbrev pub invariant-loop-i : goal.invariant-loop-i
invariant-loop-i l = map resumed l.initial.asks ≡ take l.i l.asks ++ map resumed (drop l.i l.asks)
