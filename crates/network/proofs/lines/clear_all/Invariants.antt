use Rattle.std.proofs.Common.{◌≡◌, length}
use Rattle.std.specs.VecDeque.{deque_len}
use Rattle.network.specs.Lines.{cleared, AreBelow}
use Rattle.network.proofs.lines.clear_all.Given as goal

abbrev pub invariant-loop-number : goal.invariant-loop-number
invariant-loop-number l = record {
  below : AreBelow (length l.waiting) l.queue.items;
  same : cleared l.waiting l.queue.items ≡ cleared l.fn.waiting l.fn.queue.items;
}

abbrev pub decreases-loop-number : goal.decreases-loop-number
decreases-loop-number l = deque_len l.queue
