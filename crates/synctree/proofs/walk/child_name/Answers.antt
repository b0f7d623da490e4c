use Rattle.std.proofs.Common.{◌∙◌, ap, sym, subst, ℕ, List, None, get_or}
use Rattle.std.specs.Option.{option_map}
use Rattle.synctree.specs.Sixteen.{form_of, children_in}
use Rattle.synctree.specs.TreeNode.{inner_of}
use Rattle.synctree.specs.Answers.{Spells}
use Rattle.synctree.specs.Walks.{fetch, spelled}
use Rattle.synctree.proofs.Exits.{DidOutside, after, cut_off, spelled_did}
use Rattle.synctree.proofs.Finding.{child_is}
use Rattle.synctree.proofs.Places.{inner_is}
use Rattle.synctree.proofs.walk.child_name.Goals as goal

pub returns-in_err-bytes : goal.returns-in_err-bytes
returns-in_err-bytes g c = subst (λ p. DidOutside g.N.NodeStore.may_answer g.N.NodeStore.may_refuse g.N.NodeStore.top_record g.N.NodeStore.fault_count g.H.Hasher16.kept g.H.Hasher16.clashes g.H.Hasher16.fulls p (c.args.nodes.now, c.args.hasher.now) c.from_residual.result (c.fetch.new.nodes, c.fetch.new.hasher)) (sym (child_is (form_of c.args.version) c.args.at c.args.digit c.args.digest.now))
    (cut_off g.N.NodeStore.may_answer g.N.NodeStore.may_refuse g.N.NodeStore.top_record g.N.NodeStore.fault_count g.H.Hasher16.kept g.H.Hasher16.clashes g.H.Hasher16.fulls (fetch c.args.at c.args.digest.now) (λ bytes. spelled c.args.at (option_map (λ names. get_or names c.args.digit None) ((form_of c.args.version).inner_at c.args.at bytes))) (c.args.nodes.now, c.args.hasher.now) (c.fetch.new.nodes, c.fetch.new.hasher) c.from_residual.result c.in_err-bytes.field-0.0 _ c.in_err-bytes.ensures c.from_residual.ensures.0 c.from_residual.ensures.1 (λ d h. h))

pub returns : goal.returns
returns g c = subst (λ p. DidOutside g.N.NodeStore.may_answer g.N.NodeStore.may_refuse g.N.NodeStore.top_record g.N.NodeStore.fault_count g.H.Hasher16.kept g.H.Hasher16.clashes g.H.Hasher16.fulls p (c.args.nodes.now, c.args.hasher.now) c.inner_child.result (c.fetch.new.nodes, c.fetch.new.hasher)) (sym (child_is (form_of c.args.version) c.args.at c.args.digit c.args.digest.now))
    (after g.N.NodeStore.may_answer g.N.NodeStore.may_refuse g.N.NodeStore.top_record g.N.NodeStore.fault_count g.H.Hasher16.kept g.H.Hasher16.clashes g.H.Hasher16.fulls (fetch c.args.at c.args.digest.now) (λ bytes. spelled c.args.at (option_map (λ names. get_or names c.args.digit None) ((form_of c.args.version).inner_at c.args.at bytes))) (c.args.nodes.now, c.args.hasher.now) (c.fetch.new.nodes, c.fetch.new.hasher) (c.fetch.new.nodes, c.fetch.new.hasher) c.in_ok-bytes.bytes c.inner_child.result c.in_ok-bytes.ensures
    (spelled_did g.N.NodeStore.may_answer g.N.NodeStore.may_refuse g.N.NodeStore.top_record g.N.NodeStore.fault_count g.H.Hasher16.kept g.H.Hasher16.clashes g.H.Hasher16.fulls c.inner_child.result c.args.at (option_map (λ names. get_or names c.args.digit None) ((form_of c.args.version).inner_at c.args.at c.in_ok-bytes.bytes)) (c.fetch.new.nodes, c.fetch.new.hasher)
    (subst (λ x. Spells c.inner_child.result c.args.at (option_map (λ names. get_or names c.args.digit None) x)) (ap (λ (b : List ℕ). children_in (inner_of c.args.version c.args.at b)) c.as_slice.ensures ∙ sym (inner_is c.args.version c.args.at c.in_ok-bytes.bytes)) c.inner_child.ensures)))
