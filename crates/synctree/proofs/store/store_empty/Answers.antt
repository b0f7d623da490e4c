use Rattle.std.proofs.Common.{◌∙◌, ap, sym, subst, refl, ℕ, List, [], Ok, Err, inr}
use Rattle.synctree.specs.TreeNode.{inner_spelling}
use Rattle.environment.specs.Stores.{SetTop}
use Rattle.synctree.specs.Forms.{root}
use Rattle.synctree.specs.Maps.{text}
use Rattle.synctree.specs.Sixteen.{form_of}
use Rattle.synctree.specs.Plans.{Done}
use Rattle.synctree.specs.Records.{KeptUnlessFailed}
use Rattle.synctree.specs.Walks.{store, set_top}
use Rattle.synctree.proofs.Exits.{DidOutside, passed_on, after, cut_off, node_err, node_ok}
use Rattle.synctree.proofs.Records.{store_none, spared, told_still, unset_after}
use Rattle.synctree.proofs.Storing.{empty_is}
use Rattle.synctree.proofs.store.store_empty.Goals as goal

pub returns-in_err-digest-clause-did : goal.returns-in_err-digest-clause-did
returns-in_err-digest-clause-did g c = cut_off g.N.NodeStore.may_answer g.N.NodeStore.may_refuse g.N.NodeStore.top_record g.N.NodeStore.fault_count g.H.Hasher16.kept g.H.Hasher16.clashes g.H.Hasher16.fulls (store (text (form_of c.args.version) (form_of c.args.version).depth root [])) set_top (c.args.nodes.now, c.args.hasher.now) (c.store.new.nodes, c.store.new.hasher) c.from_residual.result c.in_err-digest.field-0.0 _
    (subst (λ (b : List ℕ). DidOutside g.N.NodeStore.may_answer g.N.NodeStore.may_refuse g.N.NodeStore.top_record g.N.NodeStore.fault_count g.H.Hasher16.kept g.H.Hasher16.clashes g.H.Hasher16.fulls (store b) (c.args.nodes.now, c.args.hasher.now) (Err c.in_err-digest.field-0.0) (c.store.new.nodes, c.store.new.hasher)) (c.as_slice.ensures.value ∙ c.in-Ok.ensures.ok ∙ ap (λ (ds : List (List ℕ)). inner_spelling (record { version = c.args.version; position = root; mask = 0; digests = ds })) (c.new-2.ensures ∙ c.new.ensures.items) ∙ sym (empty_is c.args.version)) c.in_err-digest.ensures)
    c.from_residual.ensures.0 c.from_residual.ensures.1 (λ d h. h)

pub returns-in_err-set_top-clause-did : goal.returns-in_err-set_top-clause-did
returns-in_err-set_top-clause-did g c = after g.N.NodeStore.may_answer g.N.NodeStore.may_refuse g.N.NodeStore.top_record g.N.NodeStore.fault_count g.H.Hasher16.kept g.H.Hasher16.clashes g.H.Hasher16.fulls (store (text (form_of c.args.version) (form_of c.args.version).depth root [])) set_top (c.args.nodes.now, c.args.hasher.now) (c.store.new.nodes, c.store.new.hasher) (c.set_top.new.nodes, c.store.new.hasher) c.in_ok-digest.digest c.from_residual-in_err-set_top.result
    (subst (λ (b : List ℕ). DidOutside g.N.NodeStore.may_answer g.N.NodeStore.may_refuse g.N.NodeStore.top_record g.N.NodeStore.fault_count g.H.Hasher16.kept g.H.Hasher16.clashes g.H.Hasher16.fulls (store b) (c.args.nodes.now, c.args.hasher.now) (Ok c.in_ok-digest.digest) (c.store.new.nodes, c.store.new.hasher)) (c.as_slice.ensures.value ∙ c.in-Ok.ensures.ok ∙ ap (λ (ds : List (List ℕ)). inner_spelling (record { version = c.args.version; position = root; mask = 0; digests = ds })) (c.new-2.ensures ∙ c.new.ensures.items) ∙ sym (empty_is c.args.version)) c.in_ok-digest.ensures)
    (passed_on c.from_residual-in_err-set_top.result c.in_err-set_top.field-0.0 _ (λ r. DidOutside g.N.NodeStore.may_answer g.N.NodeStore.may_refuse g.N.NodeStore.top_record g.N.NodeStore.fault_count g.H.Hasher16.kept g.H.Hasher16.clashes g.H.Hasher16.fulls (set_top c.in_ok-digest.digest) (c.store.new.nodes, c.store.new.hasher) r (c.set_top.new.nodes, c.store.new.hasher))
    c.from_residual-in_err-set_top.ensures.0 c.from_residual-in_err-set_top.ensures.1 (λ d h. h)
    (node_err g.N.NodeStore.may_answer g.N.NodeStore.may_refuse g.N.NodeStore.top_record g.N.NodeStore.fault_count g.H.Hasher16.kept g.H.Hasher16.clashes g.H.Hasher16.fulls (SetTop c.in_ok-digest.digest) (λ _. Done c.in_ok-digest.digest) c.store.new.nodes c.set_top.new.nodes c.store.new.hasher c.in_err-set_top.field-0.0 c.in_err-set_top.ensures))

pub returns-clause-did : goal.returns-clause-did
returns-clause-did g c = after g.N.NodeStore.may_answer g.N.NodeStore.may_refuse g.N.NodeStore.top_record g.N.NodeStore.fault_count g.H.Hasher16.kept g.H.Hasher16.clashes g.H.Hasher16.fulls (store (text (form_of c.args.version) (form_of c.args.version).depth root [])) set_top (c.args.nodes.now, c.args.hasher.now) (c.store.new.nodes, c.store.new.hasher) (c.set_top.new.nodes, c.store.new.hasher) c.in_ok-digest.digest (Ok c.in_ok-digest.digest)
    (subst (λ (b : List ℕ). DidOutside g.N.NodeStore.may_answer g.N.NodeStore.may_refuse g.N.NodeStore.top_record g.N.NodeStore.fault_count g.H.Hasher16.kept g.H.Hasher16.clashes g.H.Hasher16.fulls (store b) (c.args.nodes.now, c.args.hasher.now) (Ok c.in_ok-digest.digest) (c.store.new.nodes, c.store.new.hasher)) (c.as_slice.ensures.value ∙ c.in-Ok.ensures.ok ∙ ap (λ (ds : List (List ℕ)). inner_spelling (record { version = c.args.version; position = root; mask = 0; digests = ds })) (c.new-2.ensures ∙ c.new.ensures.items) ∙ sym (empty_is c.args.version)) c.in_ok-digest.ensures)
    (node_ok g.N.NodeStore.may_answer g.N.NodeStore.may_refuse g.N.NodeStore.top_record g.N.NodeStore.fault_count g.H.Hasher16.kept g.H.Hasher16.clashes g.H.Hasher16.fulls (SetTop c.in_ok-digest.digest) (λ _. Done c.in_ok-digest.digest) c.store.new.nodes c.set_top.new.nodes c.store.new.hasher tt (Ok c.in_ok-digest.digest) (c.set_top.new.nodes, c.store.new.hasher) c.in_ok-set_top.ensures ([], (refl, refl, refl)))

pub returns-in_err-digest-clause-kept : goal.returns-in_err-digest-clause-kept
returns-in_err-digest-clause-kept g c = passed_on c.from_residual.result c.in_err-digest.field-0.0 _ (KeptUnlessFailed (g.N.NodeStore.top_record c.args.nodes.now) (g.N.NodeStore.top_record c.store.new.nodes))
    c.from_residual.ensures.0 c.from_residual.ensures.1 (λ d h. h)
    (inr (spared g.N.NodeStore.may_answer g.N.NodeStore.may_refuse g.N.NodeStore.top_record g.N.NodeStore.fault_count g.H.Hasher16.kept g.H.Hasher16.clashes g.H.Hasher16.fulls (store c.as_slice.result.now) (c.args.nodes.now, c.args.hasher.now) (c.store.new.nodes, c.store.new.hasher) (Err c.in_err-digest.field-0.0) (store_none c.as_slice.result.now) c.in_err-digest.ensures))

pub returns-in_err-set_top-clause-kept : goal.returns-in_err-set_top-clause-kept
returns-in_err-set_top-clause-kept g c = passed_on c.from_residual-in_err-set_top.result c.in_err-set_top.field-0.0 _ (KeptUnlessFailed (g.N.NodeStore.top_record c.args.nodes.now) (g.N.NodeStore.top_record c.set_top.new.nodes))
    c.from_residual-in_err-set_top.ensures.0 c.from_residual-in_err-set_top.ensures.1 (λ d h. h)
    (unset_after g.N.NodeStore.may_answer g.N.NodeStore.may_refuse g.N.NodeStore.top_record g.N.NodeStore.fault_count c.in_ok-digest.digest c.args.nodes.now c.store.new.nodes c.set_top.new.nodes c.in_err-set_top.field-0.0
    (spared g.N.NodeStore.may_answer g.N.NodeStore.may_refuse g.N.NodeStore.top_record g.N.NodeStore.fault_count g.H.Hasher16.kept g.H.Hasher16.clashes g.H.Hasher16.fulls (store c.as_slice.result.now) (c.args.nodes.now, c.args.hasher.now) (c.store.new.nodes, c.store.new.hasher) (Ok c.in_ok-digest.digest) (store_none c.as_slice.result.now) c.in_ok-digest.ensures)
    c.in_err-set_top.ensures)

pub returns-in-Err-clause-kept : goal.returns-in-Err-clause-kept
returns-in-Err-clause-kept g c = inr (told_still (g.N.NodeStore.top_record c.args.nodes.now))
