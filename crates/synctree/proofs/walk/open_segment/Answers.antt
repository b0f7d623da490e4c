use Rattle.std.proofs.Common.{◌∙◌, ap, sym, subst, ℕ, List}
use Rattle.synctree.specs.Sixteen.{form_of, entries_in}
use Rattle.synctree.specs.TreeNode.{segment_of}
use Rattle.synctree.specs.Answers.{Spells}
use Rattle.synctree.specs.Walks.{fetch, spelled}
use Rattle.synctree.proofs.Exits.{after, cut_off, spelled_did}
use Rattle.synctree.proofs.Places.{segment_is}
use Rattle.synctree.proofs.walk.open_segment.Goals as goal

pub returns-in_err-bytes-clause-did : goal.returns-in_err-bytes-clause-did
returns-in_err-bytes-clause-did g c = cut_off g.N.NodeStore.may_answer g.N.NodeStore.may_refuse g.N.NodeStore.top_record g.N.NodeStore.fault_count g.H.Hasher16.kept g.H.Hasher16.clashes g.H.Hasher16.fulls (fetch c.args.at c.args.digest.now) (λ bytes. spelled c.args.at ((form_of c.args.version).segment_at c.args.at bytes)) (c.args.nodes.now, c.args.hasher.now) (c.fetch.new.nodes, c.fetch.new.hasher) c.from_residual.result c.in_err-bytes.field-0.0 _ c.in_err-bytes.ensures c.from_residual.ensures.0 c.from_residual.ensures.1 (λ d h. h)

pub returns-clause-did : goal.returns-clause-did
returns-clause-did g c = after g.N.NodeStore.may_answer g.N.NodeStore.may_refuse g.N.NodeStore.top_record g.N.NodeStore.fault_count g.H.Hasher16.kept g.H.Hasher16.clashes g.H.Hasher16.fulls (fetch c.args.at c.args.digest.now) (λ bytes. spelled c.args.at ((form_of c.args.version).segment_at c.args.at bytes)) (c.args.nodes.now, c.args.hasher.now) (c.fetch.new.nodes, c.fetch.new.hasher) (c.fetch.new.nodes, c.fetch.new.hasher) c.in_ok-bytes.bytes c.segment.result c.in_ok-bytes.ensures
    (spelled_did g.N.NodeStore.may_answer g.N.NodeStore.may_refuse g.N.NodeStore.top_record g.N.NodeStore.fault_count g.H.Hasher16.kept g.H.Hasher16.clashes g.H.Hasher16.fulls c.segment.result c.args.at ((form_of c.args.version).segment_at c.args.at c.in_ok-bytes.bytes) (c.fetch.new.nodes, c.fetch.new.hasher)
    (subst (λ x. Spells c.segment.result c.args.at x) (ap (λ (b : List ℕ). entries_in (segment_of c.args.version c.args.at b)) c.as_slice.ensures ∙ sym (segment_is c.args.version c.args.at c.in_ok-bytes.bytes)) c.segment.ensures.read))
