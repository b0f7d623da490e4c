use Rattle.std.proofs.Common.{sym, refl, [], subst, ℕ, List, Option, None, Ok}
use Rattle.synctree.specs.Sixteen.{form_of}
use Rattle.synctree.specs.Walks.{onward}
use Rattle.synctree.specs.Nodes.{name_at, node_bytes}
use Rattle.synctree.proofs.Exits.{DidOutside, after, cut_off}
use Rattle.synctree.proofs.nodes.node_at.Goals as goal

pub returns-in_err-digest : goal.returns-in_err-digest
returns-in_err-digest g c = cut_off g.N.NodeStore.may_answer g.N.NodeStore.may_refuse g.N.NodeStore.top_record g.N.NodeStore.fault_count g.H.Hasher16.kept g.H.Hasher16.clashes g.H.Hasher16.fulls (name_at (form_of c.args.version) c.args.top.now c.args.at.level c.args.at.index) (onward None (node_bytes (form_of c.args.version) c.args.at)) (c.args.nodes.now, c.args.hasher.now) (c.name_at.new.nodes, c.name_at.new.hasher) c.from_residual.result c.in_err-digest.field-0.0 _ c.in_err-digest.ensures c.from_residual.ensures.0 c.from_residual.ensures.1 (λ d h. h)

pub returns-in-Some : goal.returns-in-Some
returns-in-Some g c = after g.N.NodeStore.may_answer g.N.NodeStore.may_refuse g.N.NodeStore.top_record g.N.NodeStore.fault_count g.H.Hasher16.kept g.H.Hasher16.clashes g.H.Hasher16.fulls (name_at (form_of c.args.version) c.args.top.now c.args.at.level c.args.at.index) (onward None (node_bytes (form_of c.args.version) c.args.at)) (c.args.nodes.now, c.args.hasher.now) (c.name_at.new.nodes, c.name_at.new.hasher) (c.node_bytes.new.nodes, c.node_bytes.new.hasher) c.in_ok-digest.field-0 c.node_bytes.result c.in_ok-digest.ensures
    (subst (λ (q : Option (List ℕ)). DidOutside g.N.NodeStore.may_answer g.N.NodeStore.may_refuse g.N.NodeStore.top_record g.N.NodeStore.fault_count g.H.Hasher16.kept g.H.Hasher16.clashes g.H.Hasher16.fulls (onward None (node_bytes (form_of c.args.version) c.args.at) q) (c.name_at.new.nodes, c.name_at.new.hasher) c.node_bytes.result (c.node_bytes.new.nodes, c.node_bytes.new.hasher)) (sym c.in-Some.is) c.node_bytes.ensures)

pub returns-in-None : goal.returns-in-None
returns-in-None g c = after g.N.NodeStore.may_answer g.N.NodeStore.may_refuse g.N.NodeStore.top_record g.N.NodeStore.fault_count g.H.Hasher16.kept g.H.Hasher16.clashes g.H.Hasher16.fulls (name_at (form_of c.args.version) c.args.top.now c.args.at.level c.args.at.index) (onward None (node_bytes (form_of c.args.version) c.args.at)) (c.args.nodes.now, c.args.hasher.now) (c.name_at.new.nodes, c.name_at.new.hasher) (c.name_at.new.nodes, c.name_at.new.hasher) c.in_ok-digest.field-0 (Ok None) c.in_ok-digest.ensures
    (subst (λ (q : Option (List ℕ)). DidOutside g.N.NodeStore.may_answer g.N.NodeStore.may_refuse g.N.NodeStore.top_record g.N.NodeStore.fault_count g.H.Hasher16.kept g.H.Hasher16.clashes g.H.Hasher16.fulls (onward None (node_bytes (form_of c.args.version) c.args.at) q) (c.name_at.new.nodes, c.name_at.new.hasher) (Ok None) (c.name_at.new.nodes, c.name_at.new.hasher)) (sym c.in-None.is) ([], (refl, refl, refl)))
