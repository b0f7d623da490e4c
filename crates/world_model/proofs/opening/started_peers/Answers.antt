use Rattle.world_spec.specs.Held.{account}
use Rattle.world_spec.specs.Nodes.{opening_strings}
use Rattle.world_spec.specs.Runs.{opening_mode}
use Rattle.world_model.proofs.Reached.{start_cut_off}
use Rattle.world_model.proofs.Starting.{none_started, one_started}
use Rattle.world_model.proofs.opening.started_peers.Goals as goal

pub loop-below-init : goal.loop-below-init
loop-below-init g c = rw c.new-peers.ensures.items (none_started (opening_mode c.args.form) c.args.view (account g.H.Hasher16.kept g.H.Hasher16.clashes g.H.Hasher16.fulls c.args.hasher.now))

pub returns-in_err-peer-clause-error : goal.returns-in_err-peer-clause-error
returns-in_err-peer-clause-error g c =
    let first = account g.H.Hasher16.kept g.H.Hasher16.clashes g.H.Hasher16.fulls c.args.hasher.now in
    let mid = account g.H.Hasher16.kept g.H.Hasher16.clashes g.H.Hasher16.fulls c.loop-below.hasher in
    let now = account g.H.Hasher16.kept g.H.Hasher16.clashes g.H.Hasher16.fulls c.started_peer.new.hasher in
    start_cut_off c.loop-below.below c.args.count (opening_strings (opening_mode c.args.form) c.args.view) first mid now c.in_err-peer.field-0.0 c.from_residual.result _ c.loop-below-test.true c.loop-below.invariant.has
    c.from_residual.ensures.1 (λ d h. h) c.in_err-peer.ensures.error

pub loop-below-preserved : goal.loop-below-preserved
loop-below-preserved g c =
    rw c.in_ok-push.ensures.items (one_started (opening_mode c.args.form) c.args.view c.loop-below.below c.loop-below.peers.items c.in_ok-peer.peer _ _ _ c.loop-below.invariant c.in_ok-peer.ensures.me c.in_ok-peer.ensures.node)
