use Rattle.std.proofs.Common.{◌≡◌, length}
use Rattle.http_calls.specs.Targets.{is_segment}
use Rattle.http_calls.proofs.key_text.is_segment.Given as goal

abbrev pub invariant-loop-text : goal.invariant-loop-text
invariant-loop-text l = is_segment l.text ≡ is_segment l.fn.text

abbrev pub decreases-loop-text : goal.decreases-loop-text
decreases-loop-text l = length l.text
