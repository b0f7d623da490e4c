use Rattle.std.proofs.Common.{◌≡◌, ◌++◌, length, map, take, drop}
use Rattle.repeat_link.specs.Queues.{marked}
use Rattle.repeat_link.proofs.send_queue.mark_due.Given as goal

abbrev pub invariant-loop-index : goal.invariant-loop-index
invariant-loop-index l = (length l.queued ≡ length l.initial.queued) × (l.queued ≡ map (marked l.first l.now l.timeouts) (take l.index l.initial.queued) ++ drop l.index l.initial.queued)
