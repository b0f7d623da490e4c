use Rattle.std.proofs.Common.{ℕ, List, None, refl, arith}
use Rattle.std.specs.Prelude.{drop}
use Rattle.std.specs.BTreeMap.{get}
use Rattle.ens_base.specs.Lists.{bytes_cmp}
use Rattle.network.specs.Indexes.{queue_at}
use Rattle.network.proofs.Lookups.{changed, written, rest_of_few}
use Rattle.network.proofs.index.FrameIndex.remove_first.Goals as goal

pub returns-then-count-le1 : goal.returns-then-count-le1
returns-then-count-le1 c =
    let queues = c.args.self.now.queues in
    changed (λ (xs : List ℕ). drop 1 xs) (get bytes_cmp queues c.args.bytes.now) None (rest_of_few (queue_at c.args.self.now c.args.bytes.now) (omega (arith, c.count.ensures, c.if-count-le1.true))) queues c.remove.new.self c.args.bytes.now c.remove.ensures.updates refl

pub returns-in-Some : goal.returns-in-Some
returns-in-Some c =
    written (λ (xs : List ℕ). drop 1 xs) c.in-Some.queue.now c.remove_first.new.self c.remove_first.ensures c.args.self.now.queues (c.get_mut.follows.lender c.remove_first.new.self) c.args.bytes.now (c.get_mut.follows.holds c.remove_first.new.self) c.in-Some.ensures.value
