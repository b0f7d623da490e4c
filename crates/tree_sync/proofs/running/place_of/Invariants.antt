use Rattle.std.proofs.Common.{◌≡◌, ◌+◌, drop}
use Rattle.tree_sync.specs.Asks.{place_of}
use Rattle.tree_sync.proofs.running.place_of.Given as goal

abbrev pub invariant-loop-place : goal.invariant-loop-place
invariant-loop-place l = place_of l.peer l.asks ≡ l.place + place_of l.peer (drop l.place l.asks)
