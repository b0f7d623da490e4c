use Rattle.std.proofs.Common.{◌≡◌, take}
use Rattle.register_checker.specs.Guesses.{all_answered}
use Rattle.register_checker.proofs.steps.all_answered.Given as goal

abbrev pub invariant-loop-possible : goal.invariant-loop-possible
invariant-loop-possible l = l.next.items ≡ all_answered l.known l.command l.reply (take l.possible-index l.list)
