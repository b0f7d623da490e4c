use Rattle.std.proofs.Common.{length}
use Rattle.commit_frames.proofs.digits.+may_be.Given as goal

abbrev pub decreases-may_be : goal.decreases-may_be
decreases-may_be l = length l.bytes.now
