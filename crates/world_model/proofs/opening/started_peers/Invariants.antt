use Rattle.world_spec.specs.Held.{account}
use Rattle.world_spec.specs.Runs.{opening_mode}
use Rattle.world_model.proofs.Starting.{Started}
use Rattle.world_model.proofs.opening.started_peers.Given as goal

abbrev pub invariant-loop-below : goal.invariant-loop-below
invariant-loop-below g l =
    Started (opening_mode l.fn.form) l.fn.view l.below l.peers.items (account g.H.Hasher16.kept g.H.Hasher16.clashes g.H.Hasher16.fulls l.initial.hasher) (account g.H.Hasher16.kept g.H.Hasher16.clashes g.H.Hasher16.fulls l.hasher)
