use Rattle.std.proofs.Common.{◌∷◌, ◌++◌, [], ℕ, List, Option, None, Some, ap, subst, ◌∙◌}
use Rattle.std.specs.BTreeMap.{BTreeMap, UpdatesBy}
use Rattle.ens_base.specs.Lists.{same_bytes, bytes_cmp}
use Rattle.ens_base.proofs.Tests.{either_way, on_err}
use Rattle.network.specs.Indexes.{queue_at}
use Rattle.network.proofs.Lookups.{changed, written}
use Rattle.network.proofs.index.FrameIndex.push.Goals as goal

pub returns-in_err-push-clause-err : goal.returns-in_err-push-clause-err
returns-in_err-push-clause-err c =
    let queue = c.in-Some.queue.now in
    on_err c.from_residual.result _ (λ k. written (λ xs. xs) queue c.push.new.self c.in_err-push.ensures.err c.args.self.now.queues (c.get_mut.follows.lender c.push.new.self) c.args.bytes (c.get_mut.follows.holds c.push.new.self) c.in-Some.ensures.value k
    ∙ either_way (same_bytes c.args.bytes k) (queue_at c.args.self.now k))

pub returns-in-Some-clause-ok : goal.returns-in-Some-clause-ok
returns-in-Some-clause-ok c =
    written (λ xs. xs ++ c.args.number ∷ []) c.in-Some.queue.now c.push.new.self c.in_ok-push.ensures.ok c.args.self.now.queues (c.get_mut.follows.lender c.push.new.self) c.args.bytes (c.get_mut.follows.holds c.push.new.self) c.in-Some.ensures.value

pub returns-clause-ok : goal.returns-clause-ok
returns-clause-ok c =
    let key = c.args.bytes in
    let none = c.get_mut.follows.holds-at-none in
    let w : Option (List ℕ) = Some c.push-2.new.self in
    changed (λ xs. xs ++ c.args.number ∷ []) None w (c.in_ok-push-2.ensures.ok ∙ ap (λ (xs : List ℕ). xs ++ c.args.number ∷ []) c.new-queue.ensures) c.args.self.now.queues c.insert.new.self key
    (subst (λ (m : BTreeMap (List ℕ) (List ℕ)). UpdatesBy bytes_cmp (bytes_cmp key) m c.insert.new.self w) none c.in_ok-insert.ensures.updates) c.in_default.ensures.value
