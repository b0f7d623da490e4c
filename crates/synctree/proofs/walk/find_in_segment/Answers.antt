use Rattle.std.proofs.Common.{subst, List}
use Rattle.ens_base.specs.declared.entry.Entry.{Entry}
use Rattle.synctree.specs.Entries.{lookup}
use Rattle.synctree.specs.Sixteen.{form_of}
use Rattle.synctree.specs.Answers.{Makes}
use Rattle.synctree.specs.Plans.{Done}
use Rattle.synctree.specs.Walks.{open_node}
use Rattle.synctree.proofs.Exits.{after, cut_off, made_did}
use Rattle.synctree.proofs.walk.find_in_segment.Goals as goal

pub returns-in_err-entries : goal.returns-in_err-entries
returns-in_err-entries g c = cut_off g.N.NodeStore.may_answer g.N.NodeStore.may_refuse g.N.NodeStore.top_record g.N.NodeStore.fault_count g.H.Hasher16.kept g.H.Hasher16.clashes g.H.Hasher16.fulls (open_node ((form_of c.args.version).segment_at c.args.at) c.args.at c.args.digest.now) (λ entries. Done (lookup c.args.key.now entries)) (c.args.nodes.now, c.args.hasher.now) (c.open_segment.new.nodes, c.open_segment.new.hasher) c.from_residual.result c.in_err-entries.field-0.0 _ (c.in_err-entries.ensures).did c.from_residual.ensures.0 c.from_residual.ensures.1 (λ d h. h)

pub returns : goal.returns
returns g c = after g.N.NodeStore.may_answer g.N.NodeStore.may_refuse g.N.NodeStore.top_record g.N.NodeStore.fault_count g.H.Hasher16.kept g.H.Hasher16.clashes g.H.Hasher16.fulls (open_node ((form_of c.args.version).segment_at c.args.at) c.args.at c.args.digest.now) (λ entries. Done (lookup c.args.key.now entries)) (c.args.nodes.now, c.args.hasher.now) (c.open_segment.new.nodes, c.open_segment.new.hasher) (c.open_segment.new.nodes, c.open_segment.new.hasher) c.in_ok-entries.entries c.lookup.result (c.in_ok-entries.ensures).did
    (made_did g.N.NodeStore.may_answer g.N.NodeStore.may_refuse g.N.NodeStore.top_record g.N.NodeStore.fault_count g.H.Hasher16.kept g.H.Hasher16.clashes g.H.Hasher16.fulls c.lookup.result (lookup c.args.key.now c.in_ok-entries.entries) (c.open_segment.new.nodes, c.open_segment.new.hasher)
    (subst (λ (es : List Entry). Makes c.lookup.result (lookup c.args.key.now es)) c.as_slice.ensures c.lookup.ensures))
