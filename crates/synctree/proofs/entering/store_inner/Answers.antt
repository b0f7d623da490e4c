use Rattle.std.proofs.Common.{◌∙◌, subst, ℕ, List}
use Rattle.synctree.specs.Walks.{store}
use Rattle.synctree.proofs.Exits.{DidOutside}
use Rattle.synctree.proofs.entering.store_inner.Goals as goal

pub returns : goal.returns
returns g c = subst (λ (b : List ℕ). DidOutside g.N.NodeStore.may_answer g.N.NodeStore.may_refuse g.N.NodeStore.top_record g.N.NodeStore.fault_count g.H.Hasher16.kept g.H.Hasher16.clashes g.H.Hasher16.fulls (store b) (c.args.nodes.now, c.args.hasher.now) c.store.result (c.store.new.nodes, c.store.new.hasher))
    (c.as_slice.ensures.value ∙ c.in_ok-bytes.ensures) c.store.ensures
