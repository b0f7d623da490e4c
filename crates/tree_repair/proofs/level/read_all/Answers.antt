use Rattle.std.proofs.Common.{◌+◌, ◌∙◌, ◌++◌, ◌∷◌, [], drop, length, subst, sym, ap, List, Option, ℕ, Ok}
use Rattle.synctree.specs.Installs.{store_does, store_refuses}
use Rattle.synctree.specs.Plans.{Did}
use Rattle.synctree.specs.declared.error.TreeError.TheVariants.{Memory}
use Rattle.synctree.proofs.Exits.{passed_on}
use Rattle.tree_repair.specs.declared.slot.Slot.{Slot}
use Rattle.tree_repair.specs.Levels.{read_named, read_all}
use Rattle.tree_repair.proofs.Loops.{GoesOn, goes_next, goes_err, goes_memory, goes_end, length_one}
use Rattle.tree_repair.proofs.level.read_all.Goals as goal
use Rattle.synctree.proofs.Slices.{drop_at, drop_all}

pub returns-in_err-read-clause-did : goal.returns-in_err-read-clause-did
returns-in_err-read-clause-did g c = passed_on c.from_residual.result c.in_err-read.field-0.0 _ (λ r. Did (store_does g.N.NodeStore.may_answer g.N.NodeStore.top_record g.N.NodeStore.fault_count) (store_refuses g.N.NodeStore.may_refuse g.N.NodeStore.top_record g.N.NodeStore.fault_count) (read_all c.args.slots.now) c.args.tree.now.store r c.read_slot.new.tree.store) c.from_residual.ensures.0 c.from_residual.ensures.1 (λ d h. h)
    (goes_err (store_does g.N.NodeStore.may_answer g.N.NodeStore.top_record g.N.NodeStore.fault_count) (store_refuses g.N.NodeStore.may_refuse g.N.NodeStore.top_record g.N.NodeStore.fault_count) (λ (x : Slot). read_named x.digest) c.args.slots.now (drop (c.loop-slot.slot-index + 1) c.args.slots.now) c.loop-slot.reads.items c.slot-item.result c.args.tree.now.store c.loop-slot.tree.store c.read_slot.new.tree.store c.in_err-read.field-0.0
    (subst (λ (xs : List Slot). GoesOn (store_does g.N.NodeStore.may_answer g.N.NodeStore.top_record g.N.NodeStore.fault_count) (store_refuses g.N.NodeStore.may_refuse g.N.NodeStore.top_record g.N.NodeStore.fault_count) (λ x. read_named x.digest) c.args.slots.now xs c.loop-slot.reads.items c.args.tree.now.store c.loop-slot.tree.store) (drop_at c.args.slots.now c.loop-slot.slot-index c.slot-item.result c.slot-item.result c.loop-slot-test.true c.slot-item.is) (c.loop-slot.invariant).did) (c.in_err-read.ensures).did)

pub returns-in_err-push-clause-did : goal.returns-in_err-push-clause-did
returns-in_err-push-clause-did g c = passed_on c.from_residual-in_err-push.result Memory _ (λ r. Did (store_does g.N.NodeStore.may_answer g.N.NodeStore.top_record g.N.NodeStore.fault_count) (store_refuses g.N.NodeStore.may_refuse g.N.NodeStore.top_record g.N.NodeStore.fault_count) (read_all c.args.slots.now) c.args.tree.now.store r c.read_slot.new.tree.store) c.from_residual-in_err-push.ensures.0 c.from_residual-in_err-push.ensures.1 (λ d h. h)
    (goes_memory (store_does g.N.NodeStore.may_answer g.N.NodeStore.top_record g.N.NodeStore.fault_count) (store_refuses g.N.NodeStore.may_refuse g.N.NodeStore.top_record g.N.NodeStore.fault_count) (λ (x : Slot). read_named x.digest) c.args.slots.now (drop (c.loop-slot.slot-index + 1) c.args.slots.now) (c.loop-slot.reads.items ++ c.in_ok-read.read ∷ []) c.args.tree.now.store c.read_slot.new.tree.store
    (goes_next (store_does g.N.NodeStore.may_answer g.N.NodeStore.top_record g.N.NodeStore.fault_count) (store_refuses g.N.NodeStore.may_refuse g.N.NodeStore.top_record g.N.NodeStore.fault_count) (λ (x : Slot). read_named x.digest) c.args.slots.now (drop (c.loop-slot.slot-index + 1) c.args.slots.now) c.loop-slot.reads.items c.slot-item.result c.in_ok-read.read c.args.tree.now.store c.loop-slot.tree.store c.read_slot.new.tree.store
    (subst (λ (xs : List Slot). GoesOn (store_does g.N.NodeStore.may_answer g.N.NodeStore.top_record g.N.NodeStore.fault_count) (store_refuses g.N.NodeStore.may_refuse g.N.NodeStore.top_record g.N.NodeStore.fault_count) (λ x. read_named x.digest) c.args.slots.now xs c.loop-slot.reads.items c.args.tree.now.store c.loop-slot.tree.store) (drop_at c.args.slots.now c.loop-slot.slot-index c.slot-item.result c.slot-item.result c.loop-slot-test.true c.slot-item.is) (c.loop-slot.invariant).did) (c.in_ok-read.ensures).did))

pub loop-slot-preserved : goal.loop-slot-preserved
loop-slot-preserved g c = record {
  reads = ap length (c.in_ok-push.ensures).items ∙ length_one c.loop-slot.reads.items c.in_ok-read.read ∙ ap (λ (n : ℕ). n + 1) (c.loop-slot.invariant).reads;
  version_is = (c.in_ok-read.ensures).version_is ∙ (c.loop-slot.invariant).version_is;
  top = (c.in_ok-read.ensures).top ∙ (c.loop-slot.invariant).top;
  did = subst (λ (ys : List (Option (List ℕ))). GoesOn (store_does g.N.NodeStore.may_answer g.N.NodeStore.top_record g.N.NodeStore.fault_count) (store_refuses g.N.NodeStore.may_refuse g.N.NodeStore.top_record g.N.NodeStore.fault_count) (λ x. read_named x.digest) c.args.slots.now (drop (c.loop-slot.slot-index + 1) c.args.slots.now) ys c.args.tree.now.store c.read_slot.new.tree.store) (sym (c.in_ok-push.ensures).items)
      (goes_next (store_does g.N.NodeStore.may_answer g.N.NodeStore.top_record g.N.NodeStore.fault_count) (store_refuses g.N.NodeStore.may_refuse g.N.NodeStore.top_record g.N.NodeStore.fault_count) (λ (x : Slot). read_named x.digest) c.args.slots.now (drop (c.loop-slot.slot-index + 1) c.args.slots.now) c.loop-slot.reads.items c.slot-item.result c.in_ok-read.read c.args.tree.now.store c.loop-slot.tree.store c.read_slot.new.tree.store
      (subst (λ (xs : List Slot). GoesOn (store_does g.N.NodeStore.may_answer g.N.NodeStore.top_record g.N.NodeStore.fault_count) (store_refuses g.N.NodeStore.may_refuse g.N.NodeStore.top_record g.N.NodeStore.fault_count) (λ x. read_named x.digest) c.args.slots.now xs c.loop-slot.reads.items c.args.tree.now.store c.loop-slot.tree.store) (drop_at c.args.slots.now c.loop-slot.slot-index c.slot-item.result c.slot-item.result c.loop-slot-test.true c.slot-item.is) (c.loop-slot.invariant).did) (c.in_ok-read.ensures).did);
}

pub returns-clause-did : goal.returns-clause-did
returns-clause-did g c = subst (λ (ys : List (Option (List ℕ))). Did (store_does g.N.NodeStore.may_answer g.N.NodeStore.top_record g.N.NodeStore.fault_count) (store_refuses g.N.NodeStore.may_refuse g.N.NodeStore.top_record g.N.NodeStore.fault_count) (read_all c.args.slots.now) c.args.tree.now.store (Ok ys) c.loop-slot.tree.store) (sym c.new.ensures)
    (goes_end (store_does g.N.NodeStore.may_answer g.N.NodeStore.top_record g.N.NodeStore.fault_count) (store_refuses g.N.NodeStore.may_refuse g.N.NodeStore.top_record g.N.NodeStore.fault_count) (λ (x : Slot). read_named x.digest) c.args.slots.now c.loop-slot.reads.items c.args.tree.now.store c.loop-slot.tree.store
    (subst (λ (xs : List Slot). GoesOn (store_does g.N.NodeStore.may_answer g.N.NodeStore.top_record g.N.NodeStore.fault_count) (store_refuses g.N.NodeStore.may_refuse g.N.NodeStore.top_record g.N.NodeStore.fault_count) (λ x. read_named x.digest) c.args.slots.now xs c.loop-slot.reads.items c.args.tree.now.store c.loop-slot.tree.store) (drop_all c.args.slots.now c.loop-slot.slot-index c.loop-slot-test.false) (c.loop-slot.invariant).did))
