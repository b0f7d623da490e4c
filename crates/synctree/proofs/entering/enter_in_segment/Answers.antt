use Rattle.std.proofs.Common.{sym, subst, List, []}
use Rattle.ens_base.specs.declared.entry.Entry.{Entry}
use Rattle.synctree.specs.TreeNode.{AreAbove}
use Rattle.synctree.specs.Entries.{put}
use Rattle.synctree.specs.Sixteen.{form_of}
use Rattle.synctree.specs.Walks.{reach, store}
use Rattle.synctree.proofs.Exits.{DidOutside, after, cut_off, passed_on, memory_did}
use Rattle.synctree.proofs.Puts.{put_above}
use Rattle.synctree.proofs.entering.enter_in_segment.Goals as goal

pub returns-in_err-old : goal.returns-in_err-old
returns-in_err-old g c = cut_off g.N.NodeStore.may_answer g.N.NodeStore.may_refuse g.N.NodeStore.top_record g.N.NodeStore.fault_count g.H.Hasher16.kept g.H.Hasher16.clashes g.H.Hasher16.fulls (reach ((form_of c.args.version).segment_at c.args.at) [] c.args.at c.args.named) (λ entries. store ((form_of c.args.version).segment_text c.args.at (put c.args.entry.now entries))) (c.args.nodes.now, c.args.hasher.now) (c.reach_segment.new.nodes, c.reach_segment.new.hasher) c.from_residual.result c.in_err-old.field-0.0 _ (c.in_err-old.ensures).did c.from_residual.ensures.0 c.from_residual.ensures.1 (λ d h. h)

pub returns-in_err-new : goal.returns-in_err-new
returns-in_err-new g c = after g.N.NodeStore.may_answer g.N.NodeStore.may_refuse g.N.NodeStore.top_record g.N.NodeStore.fault_count g.H.Hasher16.kept g.H.Hasher16.clashes g.H.Hasher16.fulls (reach ((form_of c.args.version).segment_at c.args.at) [] c.args.at c.args.named) (λ entries. store ((form_of c.args.version).segment_text c.args.at (put c.args.entry.now entries))) (c.args.nodes.now, c.args.hasher.now) (c.reach_segment.new.nodes, c.reach_segment.new.hasher) (c.reach_segment.new.nodes, c.reach_segment.new.hasher) c.in_ok-old.old c.from_residual-in_err-new.result (c.in_ok-old.ensures).did
    (passed_on c.from_residual-in_err-new.result c.in_err-new.field-0.0 _ (λ r. DidOutside g.N.NodeStore.may_answer g.N.NodeStore.may_refuse g.N.NodeStore.top_record g.N.NodeStore.fault_count g.H.Hasher16.kept g.H.Hasher16.clashes g.H.Hasher16.fulls (store ((form_of c.args.version).segment_text c.args.at (put c.args.entry.now c.in_ok-old.old))) (c.reach_segment.new.nodes, c.reach_segment.new.hasher) r (c.reach_segment.new.nodes, c.reach_segment.new.hasher))
    c.from_residual-in_err-new.ensures.0 c.from_residual-in_err-new.ensures.1 (λ d h. h)
    (memory_did g.N.NodeStore.may_answer g.N.NodeStore.may_refuse g.N.NodeStore.top_record g.N.NodeStore.fault_count g.H.Hasher16.kept g.H.Hasher16.clashes g.H.Hasher16.fulls (store ((form_of c.args.version).segment_text c.args.at (put c.args.entry.now c.in_ok-old.old))) (c.reach_segment.new.nodes, c.reach_segment.new.hasher) c.in_err-new.field-0.0 (c.in_err-new.ensures).made))

pub store_segment-requires-clause-ascending : goal.store_segment-requires-clause-ascending
store_segment-requires-clause-ascending g c = subst (λ (es : List Entry). AreAbove [] es) (c.in_ok-new.ensures).made (put_above c.args.entry.now c.in_ok-old.old (c.in_ok-new.ensures).key (c.in_ok-old.ensures).entries)

pub returns : goal.returns
returns g c = after g.N.NodeStore.may_answer g.N.NodeStore.may_refuse g.N.NodeStore.top_record g.N.NodeStore.fault_count g.H.Hasher16.kept g.H.Hasher16.clashes g.H.Hasher16.fulls (reach ((form_of c.args.version).segment_at c.args.at) [] c.args.at c.args.named) (λ entries. store ((form_of c.args.version).segment_text c.args.at (put c.args.entry.now entries))) (c.args.nodes.now, c.args.hasher.now) (c.reach_segment.new.nodes, c.reach_segment.new.hasher) (c.store_segment.new.nodes, c.store_segment.new.hasher) c.in_ok-old.old c.store_segment.result (c.in_ok-old.ensures).did
    (subst (λ (es : List Entry). DidOutside g.N.NodeStore.may_answer g.N.NodeStore.may_refuse g.N.NodeStore.top_record g.N.NodeStore.fault_count g.H.Hasher16.kept g.H.Hasher16.clashes g.H.Hasher16.fulls (store ((form_of c.args.version).segment_text c.args.at es)) (c.reach_segment.new.nodes, c.reach_segment.new.hasher) c.store_segment.result (c.store_segment.new.nodes, c.store_segment.new.hasher)) (sym (c.in_ok-new.ensures).made) c.store_segment.ensures)
