use Rattle.std.proofs.Common.{◌≡◌, length}
use Rattle.repeat_link.specs.Queues.{latest}
use Rattle.repeat_link.proofs.send_queue.trim.Given as goal

abbrev pub invariant-loop-queued : goal.invariant-loop-queued
invariant-loop-queued l = latest l.queued.items ≡ latest l.initial.queued.items

abbrev pub decreases-loop-queued : goal.decreases-loop-queued
decreases-loop-queued l = length l.queued.items
