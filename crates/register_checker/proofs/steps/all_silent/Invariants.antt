use Rattle.std.proofs.Common.{◌≡◌, take}
use Rattle.register_checker.specs.Guesses.{all_silent}
use Rattle.register_checker.proofs.steps.all_silent.Given as goal

abbrev pub invariant-loop-possible : goal.invariant-loop-possible
invariant-loop-possible l = l.next.items ≡ all_silent l.known l.command (take l.possible-index l.list)
