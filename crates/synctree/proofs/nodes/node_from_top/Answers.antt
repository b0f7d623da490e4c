use Rattle.std.proofs.Common.{sym, refl, [], subst, ℕ, List, Option, Err}
use Rattle.synctree.specs.Forms.{root}
use Rattle.synctree.specs.Sixteen.{form_of}
use Rattle.synctree.specs.declared.error.TreeError.TheVariants.{Damaged}
use Rattle.synctree.specs.Nodes.{node_plan}
use Rattle.synctree.proofs.Exits.{DidOutside}
use Rattle.synctree.proofs.nodes.node_from_top.Goals as goal

pub returns-in-Some : goal.returns-in-Some
returns-in-Some g c = subst (λ (q : Option (List ℕ)). DidOutside g.N.NodeStore.may_answer g.N.NodeStore.may_refuse g.N.NodeStore.top_record g.N.NodeStore.fault_count g.H.Hasher16.kept g.H.Hasher16.clashes g.H.Hasher16.fulls (node_plan (form_of c.args.version) q c.args.at) (c.args.nodes.now, c.args.hasher.now) c.node_at.result (c.node_at.new.nodes, c.node_at.new.hasher)) (sym c.in-Some.is) c.node_at.ensures

pub returns-in-None : goal.returns-in-None
returns-in-None g c = subst (λ (q : Option (List ℕ)). DidOutside g.N.NodeStore.may_answer g.N.NodeStore.may_refuse g.N.NodeStore.top_record g.N.NodeStore.fault_count g.H.Hasher16.kept g.H.Hasher16.clashes g.H.Hasher16.fulls (node_plan (form_of c.args.version) q c.args.at) (c.args.nodes.now, c.args.hasher.now) (Err (Damaged root)) (c.args.nodes.now, c.args.hasher.now)) (sym c.in-None.is) ([], (refl, refl, refl))
