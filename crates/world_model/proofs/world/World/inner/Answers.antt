use Rattle.std.proofs.Common.{rules, ◌≡◌, ◌-◌, Some, refl, map, slice_get, slice_set}
use Rattle.std.proofs.lemmas.Option.{slice_get_read}
use Rattle.world_spec.specs.Nodes.{over_stores}
use Rattle.world_spec.specs.Stores.{inner_spoiled}
use Rattle.world_model.specs.Peers.{node_of}
use Rattle.world_model.specs.Worlds.{run_of}
use Rattle.world_model.proofs.Begins.{begins_by}
use Rattle.world_model.proofs.Placed.{did_change, still_numbered, still_few}
use Rattle.world_model.proofs.Reached.{adds_changed}
use Rattle.world_model.proofs.world.World.inner.Goals as goal

pub invariant_of-self : goal.invariant_of-self
invariant_of-self c =
    let at : slice_get c.args.self.now.peers.items (c.peer.inside.0 - 1) ≡ Some c.index_mut.result.now = search (rules, slice_get_read) in
    record {
      numbered = still_numbered c.args.self.now.peers.items (c.peer.inside.0 - 1) c.index_mut.result.now c.inner.new.self at c.inner.ensures.me c.args.self.now.numbered;
      few = still_few c.args.self.now.peers.items (c.peer.inside.0 - 1) c.inner.new.self c.args.self.now.few;
      within = c.args.self.now.within;
    }

pub returns-clause-reaches : goal.returns-clause-reaches
returns-clause-reaches c =
    let at : slice_get c.args.self.now.peers.items (c.peer.inside.0 - 1) ≡ Some c.index_mut.result.now = search (rules, slice_get_read) in
    let here : slice_get c.args.self.now.peers.items (c.args.peer - 1) ≡ Some c.index_mut.result.now = rw c.peer.view_is at at in
    adds_changed c.args.peer (over_stores (inner_spoiled c.args.level c.args.index c.args.bytes.now)) (run_of c.args.self.now) c.inner.result (record (run_of c.args.self.now) { nodes = map node_of (slice_set c.args.self.now.peers.items (c.peer.inside.0 - 1) c.inner.new.self) }) _ c.args.self.now.within c.inner.ensures.ok
    (λ did. rw c.peer.view_is (did_change c.args.self.now.peers.items (run_of c.args.self.now) c.args.peer c.index_mut.result.now c.inner.new.self refl here (over_stores (inner_spoiled c.args.level c.args.index c.args.bytes.now)) did)) c.inner.ensures.memory

pub returns-clause-begins : goal.returns-clause-begins
returns-clause-begins c = begins_by c.args.self.now _ refl refl
