use Rattle.world_spec.specs.Held.{HasHashed, account}
use Rattle.std.proofs.Common.{rules, ℕ, List, [], ◌∷◌, subst, ◌≡◌, ◌-◌, Some, refl, map, slice_get, slice_set}
use Rattle.std.proofs.lemmas.Option.{slice_get_read}
use Rattle.world_spec.specs.Nodes.{over_stores}
use Rattle.world_spec.specs.Stores.{segment_spoiled}
use Rattle.world_model.specs.Peers.{node_of}
use Rattle.world_model.specs.Worlds.{run_of}
use Rattle.world_model.proofs.Begins.{begins_by}
use Rattle.world_model.proofs.Placed.{did_change, still_numbered, still_few}
use Rattle.world_model.proofs.Reached.{reaches_damaged}
use Rattle.world_model.proofs.world.World.damage.Goals as goal

pub invariant_of-self : goal.invariant_of-self
invariant_of-self g c =
    let at : slice_get c.args.self.now.peers.items (c.peer.inside.0 - 1) ≡ Some c.index_mut.result.now = search (rules, slice_get_read) in
    record {
      numbered = still_numbered c.args.self.now.peers.items (c.peer.inside.0 - 1) c.index_mut.result.now c.damage.new.self at c.damage.ensures.me c.args.self.now.numbered;
      few = still_few c.args.self.now.peers.items (c.peer.inside.0 - 1) c.damage.new.self c.args.self.now.few;
      within = c.args.self.now.within;
    }

pub returns-clause-reaches : goal.returns-clause-reaches
returns-clause-reaches g c =
    let at : slice_get c.args.self.now.peers.items (c.peer.inside.0 - 1) ≡ Some c.index_mut.result.now = search (rules, slice_get_read) in
    let here : slice_get c.args.self.now.peers.items (c.args.peer - 1) ≡ Some c.index_mut.result.now = rw c.peer.view_is at at in
    let same : c.bytes.result.now ≡ c.args.key.now = c.bytes.ensures.bytes in
    let hashed : HasHashed (c.args.key.now ∷ []) (account g.H.Hasher16.kept g.H.Hasher16.clashes g.H.Hasher16.fulls c.args.hasher.now) (account g.H.Hasher16.kept g.H.Hasher16.clashes g.H.Hasher16.fulls c.hash.new.hasher) =
    subst (λ (key : List ℕ). HasHashed (key ∷ []) (account g.H.Hasher16.kept g.H.Hasher16.clashes g.H.Hasher16.fulls c.args.hasher.now) (account g.H.Hasher16.kept g.H.Hasher16.clashes g.H.Hasher16.fulls c.hash.new.hasher)) same c.in_ok-hash.ensures.ok in
    reaches_damaged _ _ c.args.peer c.args.key.now c.args.bytes.now (run_of c.args.self.now) c.damage.result (record (run_of c.args.self.now) { nodes = map node_of (slice_set c.args.self.now.peers.items (c.peer.inside.0 - 1) c.damage.new.self) }) _
    (refl {a = []}) c.args.self.now.within hashed c.damage.ensures.ok
    (λ did. rw c.peer.view_is (did_change c.args.self.now.peers.items (run_of c.args.self.now) c.args.peer c.index_mut.result.now c.damage.new.self refl here (over_stores (segment_spoiled c.args.key.now c.args.bytes.now)) did)) c.damage.ensures.memory

pub returns-clause-begins : goal.returns-clause-begins
returns-clause-begins g c = begins_by c.args.self.now _ refl refl

pub returns-in_err-hash-clause-begins : goal.returns-in_err-hash-clause-begins
returns-in_err-hash-clause-begins g c = begins_by c.args.self.now c.args.self.now refl refl
