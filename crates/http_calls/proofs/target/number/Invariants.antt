use Rattle.std.proofs.Common.{◌≡◌, length}
use Rattle.http_calls.specs.Targets.{number_after}
use Rattle.http_calls.proofs.target.number.Given as goal

abbrev pub invariant-loop-digits : goal.invariant-loop-digits
invariant-loop-digits l = number_after l.number l.digits ≡ number_after 0 l.fn.digits

abbrev pub decreases-loop-digits : goal.decreases-loop-digits
decreases-loop-digits l = length l.digits
