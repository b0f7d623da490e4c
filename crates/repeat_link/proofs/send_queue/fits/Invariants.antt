use Rattle.std.proofs.Common.{◌≡◌, drop, nat_le}
use Rattle.std.specs.Prelude.{sum_by}
use Rattle.repeat_link.specs.Queues.{size_of}
use Rattle.repeat_link.proofs.send_queue.fits.Given as goal

abbrev pub invariant-loop-one : goal.invariant-loop-one
invariant-loop-one l = nat_le (sum_by size_of l.queued) 1048576 ≡ nat_le (sum_by size_of (drop l.one-index l.queued)) l.room
