use Rattle.std.proofs.Common.{◌∙◌, sym, subst, refl, ℕ, [], Some, Ok, Err, inr}
use Rattle.environment.specs.Stores.{SetTop}
use Rattle.synctree.specs.Forms.{root, IsPlace}
use Rattle.synctree.specs.Sixteen.{form_of}
use Rattle.synctree.proofs.Unique.{root_place}
use Rattle.synctree.specs.Plans.{Done}
use Rattle.synctree.specs.Records.{KeptUnlessFailed}
use Rattle.synctree.specs.Walks.{enter, set_top}
use Rattle.synctree.proofs.Exits.{DidOutside, passed_on, after, cut_off, node_err, node_ok}
use Rattle.synctree.proofs.Places.{depth_is}
use Rattle.synctree.proofs.Records.{enter_none, spared, unset_after}
use Rattle.synctree.proofs.entering.publish.Goals as goal

pub enter-requires-clause-place : goal.enter-requires-clause-place
enter-requires-clause-place g c = subst (λ (n : ℕ). IsPlace (form_of c.args.version) n root) (depth_is c.args.version ∙ sym c.levels-height.ensures) (root_place (form_of c.args.version))

pub returns-in_err-new-clause-did : goal.returns-in_err-new-clause-did
returns-in_err-new-clause-did g c = cut_off g.N.NodeStore.may_answer g.N.NodeStore.may_refuse g.N.NodeStore.top_record g.N.NodeStore.fault_count g.H.Hasher16.kept g.H.Hasher16.clashes g.H.Hasher16.fulls (enter (form_of c.args.version) (form_of c.args.version).depth root (Some c.args.digest) c.args.entry.now) set_top (c.args.nodes.now, c.args.hasher.now) (c.enter.new.nodes, c.enter.new.hasher) c.from_residual.result c.in_err-new.field-0.0 _
    (subst (λ (n : ℕ). DidOutside g.N.NodeStore.may_answer g.N.NodeStore.may_refuse g.N.NodeStore.top_record g.N.NodeStore.fault_count g.H.Hasher16.kept g.H.Hasher16.clashes g.H.Hasher16.fulls (enter (form_of c.args.version) n root (Some c.args.digest) c.args.entry.now) (c.args.nodes.now, c.args.hasher.now) (Err c.in_err-new.field-0.0) (c.enter.new.nodes, c.enter.new.hasher)) (c.levels-height.ensures ∙ sym (depth_is c.args.version)) c.in_err-new.ensures)
    c.from_residual.ensures.0 c.from_residual.ensures.1 (λ d h. h)

pub returns-in_err-set_top-clause-did : goal.returns-in_err-set_top-clause-did
returns-in_err-set_top-clause-did g c = after g.N.NodeStore.may_answer g.N.NodeStore.may_refuse g.N.NodeStore.top_record g.N.NodeStore.fault_count g.H.Hasher16.kept g.H.Hasher16.clashes g.H.Hasher16.fulls (enter (form_of c.args.version) (form_of c.args.version).depth root (Some c.args.digest) c.args.entry.now) set_top (c.args.nodes.now, c.args.hasher.now) (c.enter.new.nodes, c.enter.new.hasher) (c.set_top.new.nodes, c.enter.new.hasher) c.in_ok-new.new c.from_residual-in_err-set_top.result
    (subst (λ (n : ℕ). DidOutside g.N.NodeStore.may_answer g.N.NodeStore.may_refuse g.N.NodeStore.top_record g.N.NodeStore.fault_count g.H.Hasher16.kept g.H.Hasher16.clashes g.H.Hasher16.fulls (enter (form_of c.args.version) n root (Some c.args.digest) c.args.entry.now) (c.args.nodes.now, c.args.hasher.now) (Ok c.in_ok-new.new) (c.enter.new.nodes, c.enter.new.hasher)) (c.levels-height.ensures ∙ sym (depth_is c.args.version)) c.in_ok-new.ensures)
    (passed_on c.from_residual-in_err-set_top.result c.in_err-set_top.field-0.0 _ (λ r. DidOutside g.N.NodeStore.may_answer g.N.NodeStore.may_refuse g.N.NodeStore.top_record g.N.NodeStore.fault_count g.H.Hasher16.kept g.H.Hasher16.clashes g.H.Hasher16.fulls (set_top c.in_ok-new.new) (c.enter.new.nodes, c.enter.new.hasher) r (c.set_top.new.nodes, c.enter.new.hasher))
    c.from_residual-in_err-set_top.ensures.0 c.from_residual-in_err-set_top.ensures.1 (λ d h. h)
    (node_err g.N.NodeStore.may_answer g.N.NodeStore.may_refuse g.N.NodeStore.top_record g.N.NodeStore.fault_count g.H.Hasher16.kept g.H.Hasher16.clashes g.H.Hasher16.fulls (SetTop c.in_ok-new.new) (λ _. Done c.in_ok-new.new) c.enter.new.nodes c.set_top.new.nodes c.enter.new.hasher c.in_err-set_top.field-0.0 c.in_err-set_top.ensures))

pub returns-clause-did : goal.returns-clause-did
returns-clause-did g c = after g.N.NodeStore.may_answer g.N.NodeStore.may_refuse g.N.NodeStore.top_record g.N.NodeStore.fault_count g.H.Hasher16.kept g.H.Hasher16.clashes g.H.Hasher16.fulls (enter (form_of c.args.version) (form_of c.args.version).depth root (Some c.args.digest) c.args.entry.now) set_top (c.args.nodes.now, c.args.hasher.now) (c.enter.new.nodes, c.enter.new.hasher) (c.set_top.new.nodes, c.enter.new.hasher) c.in_ok-new.new (Ok c.in_ok-new.new)
    (subst (λ (n : ℕ). DidOutside g.N.NodeStore.may_answer g.N.NodeStore.may_refuse g.N.NodeStore.top_record g.N.NodeStore.fault_count g.H.Hasher16.kept g.H.Hasher16.clashes g.H.Hasher16.fulls (enter (form_of c.args.version) n root (Some c.args.digest) c.args.entry.now) (c.args.nodes.now, c.args.hasher.now) (Ok c.in_ok-new.new) (c.enter.new.nodes, c.enter.new.hasher)) (c.levels-height.ensures ∙ sym (depth_is c.args.version)) c.in_ok-new.ensures)
    (node_ok g.N.NodeStore.may_answer g.N.NodeStore.may_refuse g.N.NodeStore.top_record g.N.NodeStore.fault_count g.H.Hasher16.kept g.H.Hasher16.clashes g.H.Hasher16.fulls (SetTop c.in_ok-new.new) (λ _. Done c.in_ok-new.new) c.enter.new.nodes c.set_top.new.nodes c.enter.new.hasher tt (Ok c.in_ok-new.new) (c.set_top.new.nodes, c.enter.new.hasher) c.in_ok-set_top.ensures ([], (refl, refl, refl)))

pub returns-in_err-new-clause-kept : goal.returns-in_err-new-clause-kept
returns-in_err-new-clause-kept g c = passed_on c.from_residual.result c.in_err-new.field-0.0 _ (KeptUnlessFailed (g.N.NodeStore.top_record c.args.nodes.now) (g.N.NodeStore.top_record c.enter.new.nodes))
    c.from_residual.ensures.0 c.from_residual.ensures.1 (λ d h. h)
    (inr (spared g.N.NodeStore.may_answer g.N.NodeStore.may_refuse g.N.NodeStore.top_record g.N.NodeStore.fault_count g.H.Hasher16.kept g.H.Hasher16.clashes g.H.Hasher16.fulls (enter (form_of c.args.version) c.levels-height.result root (Some c.args.digest) c.args.entry.now) (c.args.nodes.now, c.args.hasher.now) (c.enter.new.nodes, c.enter.new.hasher) (Err c.in_err-new.field-0.0) (enter_none (form_of c.args.version) c.levels-height.result root (Some c.args.digest) c.args.entry.now) c.in_err-new.ensures))

pub returns-in_err-set_top-clause-kept : goal.returns-in_err-set_top-clause-kept
returns-in_err-set_top-clause-kept g c = passed_on c.from_residual-in_err-set_top.result c.in_err-set_top.field-0.0 _ (KeptUnlessFailed (g.N.NodeStore.top_record c.args.nodes.now) (g.N.NodeStore.top_record c.set_top.new.nodes))
    c.from_residual-in_err-set_top.ensures.0 c.from_residual-in_err-set_top.ensures.1 (λ d h. h)
    (unset_after g.N.NodeStore.may_answer g.N.NodeStore.may_refuse g.N.NodeStore.top_record g.N.NodeStore.fault_count c.in_ok-new.new c.args.nodes.now c.enter.new.nodes c.set_top.new.nodes c.in_err-set_top.field-0.0
    (spared g.N.NodeStore.may_answer g.N.NodeStore.may_refuse g.N.NodeStore.top_record g.N.NodeStore.fault_count g.H.Hasher16.kept g.H.Hasher16.clashes g.H.Hasher16.fulls (enter (form_of c.args.version) c.levels-height.result root (Some c.args.digest) c.args.entry.now) (c.args.nodes.now, c.args.hasher.now) (c.enter.new.nodes, c.enter.new.hasher) (Ok c.in_ok-new.new) (enter_none (form_of c.args.version) c.levels-height.result root (Some c.args.digest) c.args.entry.now) c.in_ok-new.ensures)
    c.in_err-set_top.ensures)
