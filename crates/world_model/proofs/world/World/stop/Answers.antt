use Rattle.std.proofs.Common.{rules, ◌≡◌, ◌-◌, Some, refl, slice_get}
use Rattle.std.proofs.lemmas.Option.{slice_get_read}
use Rattle.world_model.specs.Worlds.{run_of}
use Rattle.world_model.proofs.Placed.{did_change, still_numbered, still_few}
use Rattle.world_model.proofs.world.World.stop.Goals as goal

pub invariant_of-self : goal.invariant_of-self
invariant_of-self c =
    let at : slice_get c.args.self.now.peers.items (c.peer.inside.0 - 1) ≡ Some c.index_mut.result.now = search (rules, slice_get_read) in
    record {
      numbered = still_numbered c.args.self.now.peers.items (c.peer.inside.0 - 1) c.index_mut.result.now c.stop.new.self at c.stop.ensures.me c.args.self.now.numbered;
      few = still_few c.args.self.now.peers.items (c.peer.inside.0 - 1) c.stop.new.self c.args.self.now.few;
      within = c.args.self.now.within;
    }

pub returns : goal.returns
returns c =
    let at : slice_get c.args.self.now.peers.items (c.peer.inside.0 - 1) ≡ Some c.index_mut.result.now = search (rules, slice_get_read) in
    let here : slice_get c.args.self.now.peers.items (c.args.peer - 1) ≡ Some c.index_mut.result.now = rw c.peer.view_is at at in
    rw c.peer.view_is (did_change c.args.self.now.peers.items (run_of c.args.self.now) c.args.peer c.index_mut.result.now c.stop.new.self refl here _ c.stop.ensures.node)
