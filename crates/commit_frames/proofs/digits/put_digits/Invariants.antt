use Rattle.std.proofs.Common.{◌≡◌, ◌++◌, ◌-◌}
use Rattle.commit_frames.specs.Digits.{digits}
use Rattle.commit_frames.proofs.digits.put_digits.Given as goal

abbrev pub invariant-loop-place : goal.invariant-loop-place
invariant-loop-place l = l.out.items ++ digits (l.count - l._place) l.rest ≡ l.fn.out.items ++ digits l.count l.number
