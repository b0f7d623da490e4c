use Rattle.std.proofs.Common.{◌≡◌, true, false, refl, sym, subst, ◌∙◌}
use Rattle.peer_spec.specs.TreeCalls.{has_position}
use Rattle.tree_node.specs.Positions.{IsPosition}
use Rattle.tree_node.specs.declared.version.TreeVersion.{TreeVersion}
use Rattle.peer_stores.proofs.TreeCounts.{node_read, node_absent}
use Rattle.peer_stores.proofs.stores.StoresStore.read_node.Goals as goal

pub returns-else-has_position : goal.returns-else-has_position
returns-else-has_position g c = node_absent g.N.NodeStore.may_answer g.N.NodeStore.may_refuse g.N.NodeStore.top_record g.N.NodeStore.fault_count g.H.Hasher16.kept g.H.Hasher16.clashes g.H.Hasher16.fulls (c.args.self.now, c.args.hasher.now) (c.args.self.now, c.args.hasher.now) (refl, refl) g.B.Backend.may_answer g.B.Backend.may_refuse g.B.Backend.fault_count g.F.FactKeeper.may_answer g.F.FactKeeper.may_refuse g.F.FactKeeper.kept g.F.FactKeeper.fault_count c.args.at (subst (λ (v : TreeVersion). has_position v c.args.at ≡ false) c.version.ensures (sym c.has_position.ensures.is ∙ c.if-has_position.false)) refl

pub node-requires : goal.node-requires
node-requires g c = subst (λ (v : TreeVersion). IsPosition v c.args.at) c.version.ensures (c.has_position.ensures.inside c.if-has_position.true c.requires)

pub returns-then-has_position : goal.returns-then-has_position
returns-then-has_position g c = rw c.walked.ensures (node_read g.N.NodeStore.may_answer g.N.NodeStore.may_refuse g.N.NodeStore.top_record g.N.NodeStore.fault_count g.H.Hasher16.kept g.H.Hasher16.clashes g.H.Hasher16.fulls (c.args.self.now, c.args.hasher.now) (record c.args.self.now { tree = c.node.new.self }, c.node.new.hasher) (refl, refl) g.B.Backend.may_answer g.B.Backend.may_refuse g.B.Backend.fault_count g.F.FactKeeper.may_answer g.F.FactKeeper.may_refuse g.F.FactKeeper.kept g.F.FactKeeper.fault_count c.args.at c.node.result (subst (λ (v : TreeVersion). has_position v c.args.at ≡ true) c.version.ensures (sym c.has_position.ensures.is ∙ c.if-has_position.true)) c.node.ensures.top c.node.ensures.version_is c.node.ensures.did)
