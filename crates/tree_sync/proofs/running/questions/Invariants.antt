use Rattle.std.proofs.Common.{◌≡◌, take}
use Rattle.tree_sync.specs.Asks.{questions}
use Rattle.tree_sync.proofs.running.questions.Given as goal

abbrev pub invariant-loop-asking : goal.invariant-loop-asking
invariant-loop-asking l = l.sends.items ≡ questions l.ballot (take l.asking-index l.asks)
