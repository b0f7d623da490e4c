use Rattle.std.proofs.Common.{◌∙◌, [], refl, ap, subst, List, Option, ℕ, Ok, Err, map}
use Rattle.synctree.specs.Plans.{Done, ◌>>=◌, Did}
use Rattle.synctree.proofs.Exits.{DidOutside, after, passed_on, memory_did}
use Rattle.synctree.proofs.Composing.{did_err}
use Rattle.synctree.specs.Outsides.{outside_does, outside_refuses}
use Rattle.tree_repair.specs.Hashers.{digest_if, hasher_does, hasher_refuses}
use Rattle.tree_repair.specs.Levels.{read_all, hash_all, read_level}
use Rattle.tree_repair.specs.Slots.{Reads}
use Rattle.tree_repair.proofs.Loops.{store_did, hasher_did}
use Rattle.tree_repair.proofs.level.read_level.Goals as goal

pub returns-in_err-reads-clause-did : goal.returns-in_err-reads-clause-did
returns-in_err-reads-clause-did g c = passed_on c.from_residual.result c.in_err-reads.field-0.0 _ (λ r. Reads (λ q. DidOutside g.N.NodeStore.may_answer g.N.NodeStore.may_refuse g.N.NodeStore.top_record g.N.NodeStore.fault_count g.H.Hasher16.kept g.H.Hasher16.clashes g.H.Hasher16.fulls (read_level c.args.slots.now) (c.args.tree.now.store, c.args.hasher.now) q (c.read_all.new.tree.store, c.args.hasher.now)) r) c.from_residual.ensures.0 c.from_residual.ensures.1 (λ d h. h)
    (did_err (outside_does g.N.NodeStore.may_answer g.N.NodeStore.top_record g.N.NodeStore.fault_count g.H.Hasher16.kept g.H.Hasher16.clashes g.H.Hasher16.fulls) (outside_refuses g.N.NodeStore.may_refuse g.N.NodeStore.top_record g.N.NodeStore.fault_count g.H.Hasher16.kept g.H.Hasher16.clashes g.H.Hasher16.fulls) (read_all c.args.slots.now) (λ reads. hash_all reads >>= (λ _. Done reads)) (c.args.tree.now.store, c.args.hasher.now) (c.read_all.new.tree.store, c.args.hasher.now) c.in_err-reads.field-0.0
    (store_did g.N.NodeStore.may_answer g.N.NodeStore.may_refuse g.N.NodeStore.top_record g.N.NodeStore.fault_count g.H.Hasher16.kept g.H.Hasher16.clashes g.H.Hasher16.fulls (read_all c.args.slots.now) c.args.tree.now.store c.read_all.new.tree.store c.args.hasher.now (Err c.in_err-reads.field-0.0) (c.in_err-reads.ensures).did))

pub returns-in_err-found-clause-did : goal.returns-in_err-found-clause-did
returns-in_err-found-clause-did g c = passed_on c.from_residual-in_err-found.result c.in_err-found.field-0.0 _ (λ r. Reads (λ q. DidOutside g.N.NodeStore.may_answer g.N.NodeStore.may_refuse g.N.NodeStore.top_record g.N.NodeStore.fault_count g.H.Hasher16.kept g.H.Hasher16.clashes g.H.Hasher16.fulls (read_level c.args.slots.now) (c.args.tree.now.store, c.args.hasher.now) q (c.read_all.new.tree.store, c.args.hasher.now)) r) c.from_residual-in_err-found.ensures.0 c.from_residual-in_err-found.ensures.1 (λ d h. h)
    (after g.N.NodeStore.may_answer g.N.NodeStore.may_refuse g.N.NodeStore.top_record g.N.NodeStore.fault_count g.H.Hasher16.kept g.H.Hasher16.clashes g.H.Hasher16.fulls (read_all c.args.slots.now) (λ reads. hash_all reads >>= (λ _. Done reads)) (c.args.tree.now.store, c.args.hasher.now) (c.read_all.new.tree.store, c.args.hasher.now) (c.read_all.new.tree.store, c.args.hasher.now) c.in_ok-reads.reads (Err c.in_err-found.field-0.0)
    (store_did g.N.NodeStore.may_answer g.N.NodeStore.may_refuse g.N.NodeStore.top_record g.N.NodeStore.fault_count g.H.Hasher16.kept g.H.Hasher16.clashes g.H.Hasher16.fulls (read_all c.args.slots.now) c.args.tree.now.store c.read_all.new.tree.store c.args.hasher.now (Ok c.in_ok-reads.reads) (c.in_ok-reads.ensures).did)
    (memory_did g.N.NodeStore.may_answer g.N.NodeStore.may_refuse g.N.NodeStore.top_record g.N.NodeStore.fault_count g.H.Hasher16.kept g.H.Hasher16.clashes g.H.Hasher16.fulls (hash_all c.in_ok-reads.reads >>= (λ _. Done c.in_ok-reads.reads)) (c.read_all.new.tree.store, c.args.hasher.now) c.in_err-found.field-0.0 (c.in_err-found.ensures).memory))

pub returns-in_err-admit_level-clause-did : goal.returns-in_err-admit_level-clause-did
returns-in_err-admit_level-clause-did g c = passed_on c.from_residual-in_err-admit_level.result c.in_err-admit_level.field-0.0 _ (λ r. Reads (λ q. DidOutside g.N.NodeStore.may_answer g.N.NodeStore.may_refuse g.N.NodeStore.top_record g.N.NodeStore.fault_count g.H.Hasher16.kept g.H.Hasher16.clashes g.H.Hasher16.fulls (read_level c.args.slots.now) (c.args.tree.now.store, c.args.hasher.now) q (c.read_all.new.tree.store, c.admit_level.new.hasher)) r) c.from_residual-in_err-admit_level.ensures.0 c.from_residual-in_err-admit_level.ensures.1 (λ d h. h)
    (after g.N.NodeStore.may_answer g.N.NodeStore.may_refuse g.N.NodeStore.top_record g.N.NodeStore.fault_count g.H.Hasher16.kept g.H.Hasher16.clashes g.H.Hasher16.fulls (read_all c.args.slots.now) (λ reads. hash_all reads >>= (λ _. Done reads)) (c.args.tree.now.store, c.args.hasher.now) (c.read_all.new.tree.store, c.args.hasher.now) (c.read_all.new.tree.store, c.admit_level.new.hasher) c.in_ok-reads.reads (Err c.in_err-admit_level.field-0.0)
    (store_did g.N.NodeStore.may_answer g.N.NodeStore.may_refuse g.N.NodeStore.top_record g.N.NodeStore.fault_count g.H.Hasher16.kept g.H.Hasher16.clashes g.H.Hasher16.fulls (read_all c.args.slots.now) c.args.tree.now.store c.read_all.new.tree.store c.args.hasher.now (Ok c.in_ok-reads.reads) (c.in_ok-reads.ensures).did)
    (did_err (outside_does g.N.NodeStore.may_answer g.N.NodeStore.top_record g.N.NodeStore.fault_count g.H.Hasher16.kept g.H.Hasher16.clashes g.H.Hasher16.fulls) (outside_refuses g.N.NodeStore.may_refuse g.N.NodeStore.top_record g.N.NodeStore.fault_count g.H.Hasher16.kept g.H.Hasher16.clashes g.H.Hasher16.fulls) (hash_all c.in_ok-reads.reads) (λ _. Done c.in_ok-reads.reads) (c.read_all.new.tree.store, c.args.hasher.now) (c.read_all.new.tree.store, c.admit_level.new.hasher) c.in_err-admit_level.field-0.0
    (hasher_did g.N.NodeStore.may_answer g.N.NodeStore.may_refuse g.N.NodeStore.top_record g.N.NodeStore.fault_count g.H.Hasher16.kept g.H.Hasher16.clashes g.H.Hasher16.fulls (hash_all c.in_ok-reads.reads) c.read_all.new.tree.store c.args.hasher.now c.admit_level.new.hasher (Err c.in_err-admit_level.field-0.0)
    (subst (λ (rs : List (Option (List ℕ))). Did (hasher_does g.H.Hasher16.kept g.H.Hasher16.clashes g.H.Hasher16.fulls) (hasher_refuses g.H.Hasher16.kept g.H.Hasher16.clashes g.H.Hasher16.fulls) (hash_all rs) c.args.hasher.now (Err c.in_err-admit_level.field-0.0) c.admit_level.new.hasher) c.as_slice-2.ensures c.in_err-admit_level.ensures))))

pub returns-clause-did : goal.returns-clause-did
returns-clause-did g c = (
  after g.N.NodeStore.may_answer g.N.NodeStore.may_refuse g.N.NodeStore.top_record g.N.NodeStore.fault_count g.H.Hasher16.kept g.H.Hasher16.clashes g.H.Hasher16.fulls (read_all c.args.slots.now) (λ reads. hash_all reads >>= (λ _. Done reads)) (c.args.tree.now.store, c.args.hasher.now) (c.read_all.new.tree.store, c.args.hasher.now) (c.read_all.new.tree.store, c.admit_level.new.hasher) c.in_ok-reads.reads (Ok c.in_ok-reads.reads)
      (store_did g.N.NodeStore.may_answer g.N.NodeStore.may_refuse g.N.NodeStore.top_record g.N.NodeStore.fault_count g.H.Hasher16.kept g.H.Hasher16.clashes g.H.Hasher16.fulls (read_all c.args.slots.now) c.args.tree.now.store c.read_all.new.tree.store c.args.hasher.now (Ok c.in_ok-reads.reads) (c.in_ok-reads.ensures).did)
      (after g.N.NodeStore.may_answer g.N.NodeStore.may_refuse g.N.NodeStore.top_record g.N.NodeStore.fault_count g.H.Hasher16.kept g.H.Hasher16.clashes g.H.Hasher16.fulls (hash_all c.in_ok-reads.reads) (λ _. Done c.in_ok-reads.reads) (c.read_all.new.tree.store, c.args.hasher.now) (c.read_all.new.tree.store, c.admit_level.new.hasher) (c.read_all.new.tree.store, c.admit_level.new.hasher) tt (Ok c.in_ok-reads.reads)
      (hasher_did g.N.NodeStore.may_answer g.N.NodeStore.may_refuse g.N.NodeStore.top_record g.N.NodeStore.fault_count g.H.Hasher16.kept g.H.Hasher16.clashes g.H.Hasher16.fulls (hash_all c.in_ok-reads.reads) c.read_all.new.tree.store c.args.hasher.now c.admit_level.new.hasher (Ok tt)
      (subst (λ (rs : List (Option (List ℕ))). Did (hasher_does g.H.Hasher16.kept g.H.Hasher16.clashes g.H.Hasher16.fulls) (hasher_refuses g.H.Hasher16.kept g.H.Hasher16.clashes g.H.Hasher16.fulls) (hash_all rs) c.args.hasher.now (Ok tt) c.admit_level.new.hasher) c.as_slice-2.ensures c.in_ok-admit_level.ensures))
      ([], (refl, refl, refl))),
  (c.in_ok-found.ensures).ok ∙ ap (map digest_if) c.as_slice.ensures,
)
