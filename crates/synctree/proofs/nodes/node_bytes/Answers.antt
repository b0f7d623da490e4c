use Rattle.std.proofs.Common.{◌∙◌, ◌-◌, ap, sym, refl, [], true, false, ℕ, List, Some, Ok, Err}
use Rattle.std.specs.Prelude.{if◌then◌else◌}
use Rattle.synctree.specs.TreeNode.{levels}
use Rattle.synctree.specs.Sixteen.{form_of}
use Rattle.synctree.specs.declared.error.TreeError.TheVariants.{Damaged}
use Rattle.synctree.specs.Plans.{Done, Broken}
use Rattle.synctree.specs.Walks.{fetch}
use Rattle.synctree.specs.Nodes.{is_node}
use Rattle.synctree.proofs.Exits.{DidOutside, after, cut_off, passed_on, memory_did}
use Rattle.synctree.proofs.Places.{depth_is}
use Rattle.synctree.proofs.Descending.{bytes_did}
use Rattle.synctree.proofs.nodes.node_bytes.Goals as goal

pub returns-in_err-bytes : goal.returns-in_err-bytes
returns-in_err-bytes g c = cut_off g.N.NodeStore.may_answer g.N.NodeStore.may_refuse g.N.NodeStore.top_record g.N.NodeStore.fault_count g.H.Hasher16.kept g.H.Hasher16.clashes g.H.Hasher16.fulls (fetch c.args.at c.args.digest.now) (λ bytes. if is_node (form_of c.args.version) ((form_of c.args.version).depth - c.args.at.level) c.args.at bytes then Done (Some bytes) else Broken c.args.at) (c.args.nodes.now, c.args.hasher.now) (c.fetch.new.nodes, c.fetch.new.hasher) c.from_residual.result c.in_err-bytes.field-0.0 _ c.in_err-bytes.ensures c.from_residual.ensures.0 c.from_residual.ensures.1 (λ d h. h)

pub returns-in_err-is_node : goal.returns-in_err-is_node
returns-in_err-is_node g c = after g.N.NodeStore.may_answer g.N.NodeStore.may_refuse g.N.NodeStore.top_record g.N.NodeStore.fault_count g.H.Hasher16.kept g.H.Hasher16.clashes g.H.Hasher16.fulls (fetch c.args.at c.args.digest.now) (λ bytes. if is_node (form_of c.args.version) ((form_of c.args.version).depth - c.args.at.level) c.args.at bytes then Done (Some bytes) else Broken c.args.at) (c.args.nodes.now, c.args.hasher.now) (c.fetch.new.nodes, c.fetch.new.hasher) (c.fetch.new.nodes, c.fetch.new.hasher) c.in_ok-bytes.bytes c.from_residual-in_err-is_node.result c.in_ok-bytes.ensures
    (passed_on c.from_residual-in_err-is_node.result c.in_err-is_node.field-0.0 _
    (λ r. DidOutside g.N.NodeStore.may_answer g.N.NodeStore.may_refuse g.N.NodeStore.top_record g.N.NodeStore.fault_count g.H.Hasher16.kept g.H.Hasher16.clashes g.H.Hasher16.fulls (if is_node (form_of c.args.version) ((form_of c.args.version).depth - c.args.at.level) c.args.at c.in_ok-bytes.bytes then Done (Some c.in_ok-bytes.bytes) else Broken c.args.at) (c.fetch.new.nodes, c.fetch.new.hasher) r (c.fetch.new.nodes, c.fetch.new.hasher))
    c.from_residual-in_err-is_node.ensures.0 c.from_residual-in_err-is_node.ensures.1 (λ d h. h)
    (memory_did g.N.NodeStore.may_answer g.N.NodeStore.may_refuse g.N.NodeStore.top_record g.N.NodeStore.fault_count g.H.Hasher16.kept g.H.Hasher16.clashes g.H.Hasher16.fulls (if is_node (form_of c.args.version) ((form_of c.args.version).depth - c.args.at.level) c.args.at c.in_ok-bytes.bytes then Done (Some c.in_ok-bytes.bytes) else Broken c.args.at) (c.fetch.new.nodes, c.fetch.new.hasher) c.in_err-is_node.field-0.0 c.in_err-is_node.ensures))

pub returns-then-branch : goal.returns-then-branch
returns-then-branch g c = after g.N.NodeStore.may_answer g.N.NodeStore.may_refuse g.N.NodeStore.top_record g.N.NodeStore.fault_count g.H.Hasher16.kept g.H.Hasher16.clashes g.H.Hasher16.fulls (fetch c.args.at c.args.digest.now) (λ bytes. if is_node (form_of c.args.version) ((form_of c.args.version).depth - c.args.at.level) c.args.at bytes then Done (Some bytes) else Broken c.args.at) (c.args.nodes.now, c.args.hasher.now) (c.fetch.new.nodes, c.fetch.new.hasher) (c.fetch.new.nodes, c.fetch.new.hasher) c.in_ok-bytes.bytes (Ok (Some c.in_ok-bytes.bytes)) c.in_ok-bytes.ensures
    (bytes_did g.N.NodeStore.may_answer g.N.NodeStore.may_refuse g.N.NodeStore.top_record g.N.NodeStore.fault_count g.H.Hasher16.kept g.H.Hasher16.clashes g.H.Hasher16.fulls (form_of c.args.version) c.args.at c.in_ok-bytes.bytes true (c.fetch.new.nodes, c.fetch.new.hasher) (Ok (Some c.in_ok-bytes.bytes))
    (ap (λ (d : ℕ). is_node (form_of c.args.version) (d - c.args.at.level) c.args.at c.in_ok-bytes.bytes) (depth_is c.args.version) ∙ ap (λ (b : List ℕ). is_node (form_of c.args.version) (levels c.args.version - c.args.at.level) c.args.at b) (sym c.as_slice.ensures) ∙ c.in_ok-is_node.ensures ∙ c.if-branch.true) ([], (refl, refl, refl)))

pub returns-else-branch : goal.returns-else-branch
returns-else-branch g c = after g.N.NodeStore.may_answer g.N.NodeStore.may_refuse g.N.NodeStore.top_record g.N.NodeStore.fault_count g.H.Hasher16.kept g.H.Hasher16.clashes g.H.Hasher16.fulls (fetch c.args.at c.args.digest.now) (λ bytes. if is_node (form_of c.args.version) ((form_of c.args.version).depth - c.args.at.level) c.args.at bytes then Done (Some bytes) else Broken c.args.at) (c.args.nodes.now, c.args.hasher.now) (c.fetch.new.nodes, c.fetch.new.hasher) (c.fetch.new.nodes, c.fetch.new.hasher) c.in_ok-bytes.bytes (Err (Damaged c.args.at)) c.in_ok-bytes.ensures
    (bytes_did g.N.NodeStore.may_answer g.N.NodeStore.may_refuse g.N.NodeStore.top_record g.N.NodeStore.fault_count g.H.Hasher16.kept g.H.Hasher16.clashes g.H.Hasher16.fulls (form_of c.args.version) c.args.at c.in_ok-bytes.bytes false (c.fetch.new.nodes, c.fetch.new.hasher) (Err (Damaged c.args.at))
    (ap (λ (d : ℕ). is_node (form_of c.args.version) (d - c.args.at.level) c.args.at c.in_ok-bytes.bytes) (depth_is c.args.version) ∙ ap (λ (b : List ℕ). is_node (form_of c.args.version) (levels c.args.version - c.args.at.level) c.args.at b) (sym c.as_slice.ensures) ∙ c.in_ok-is_node.ensures ∙ c.if-branch.false) ([], (refl, refl, refl)))
