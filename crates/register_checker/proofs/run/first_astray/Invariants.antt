use Rattle.register_checker.proofs.Runs.{HasGone}
use Rattle.register_checker.proofs.run.first_astray.Given as goal

abbrev pub invariant-loop-place : goal.invariant-loop-place
invariant-loop-place l = HasGone l.calls l.answers l.order l.walk l.place
