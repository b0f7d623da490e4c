use Rattle.std.proofs.Common.{rules, ◌≡◌, ◌-◌, ◌∙◌, Some, refl, ap, sym, map, slice_get, slice_set}
use Rattle.std.proofs.lemmas.Option.{slice_get_read}
use Rattle.peer_state.specs.declared.state.Mode.{Mode}
use Rattle.world_spec.specs.Nodes.{Node, started, hashed_by_start}
use Rattle.world_spec.specs.Runs.{Run, mode_at}
use Rattle.world_model.specs.Peers.{node_of}
use Rattle.world_model.specs.Worlds.{run_of}
use Rattle.world_model.proofs.Begins.{begins_by}
use Rattle.world_model.proofs.Placed.{did_start, start_strings_at, still_numbered, still_few}
use Rattle.world_model.proofs.Reached.{reaches_started}
use Rattle.world_model.proofs.world.World.start.Goals as goal

pub invariant_of-self : goal.invariant_of-self
invariant_of-self g c =
    let at : slice_get c.args.self.now.peers.items (c.peer.inside.0 - 1) ≡ Some c.index_mut.result.now = search (rules, slice_get_read) in
    record {
      numbered = still_numbered c.args.self.now.peers.items (c.peer.inside.0 - 1) c.index_mut.result.now c.start.new.self at c.start.ensures.me c.args.self.now.numbered;
      few = still_few c.args.self.now.peers.items (c.peer.inside.0 - 1) c.start.new.self c.args.self.now.few;
      within = c.args.self.now.within;
    }

pub returns-clause-reaches : goal.returns-clause-reaches
returns-clause-reaches g c =
    let w : Run = run_of c.args.self.now in
    let at : slice_get c.args.self.now.peers.items (c.peer.inside.0 - 1) ≡ Some c.index_mut.result.now = search (rules, slice_get_read) in
    let here : slice_get c.args.self.now.peers.items (c.args.peer - 1) ≡ Some c.index_mut.result.now = rw c.peer.view_is at at in
    let old : Node = node_of c.index_mut.result.now in
    let same : c.mode_of-mode.result ≡ mode_at c.args.peer w = c.mode_of-mode.ensures in
    reaches_started _ _ c.args.peer w (hashed_by_start c.mode_of-mode.result c.args.self.now.opening old) c.start.result
    (record w { nodes = map node_of (slice_set c.args.self.now.peers.items (c.peer.inside.0 - 1) c.start.new.self) }) _
    (start_strings_at c.args.self.now.peers.items w c.args.peer c.index_mut.result.now c.start.new.self refl here ∙ ap (λ (mode : Mode). hashed_by_start mode c.args.self.now.opening old) (sym same)) c.args.self.now.within c.start.ensures.ok
    (λ did. rw c.peer.view_is (did_start c.args.self.now.peers.items w c.args.peer c.index_mut.result.now c.start.new.self refl here (did.is ∙ ap (λ (mode : Mode). started mode c.args.self.now.opening old) same))) (λ did. did.has) c.start.ensures.error

pub returns-clause-begins : goal.returns-clause-begins
returns-clause-begins g c = begins_by c.args.self.now _ refl refl
