use Rattle.std.proofs.Common.{length, ◌-◌, ◌≤◌}
use Rattle.host.proofs.file_disk.read_from.Given as goal

abbrev pub invariant-loop-count : goal.invariant-loop-count
invariant-loop-count l = l.count ≤ length l.buf

abbrev pub decreases-loop-count : goal.decreases-loop-count
decreases-loop-count l = length l.initial.buf - l.count
