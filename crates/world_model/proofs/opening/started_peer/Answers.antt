use Rattle.std.proofs.Common.{◌≡◌, subst, Bool}
use Rattle.world_spec.specs.Held.{account, empty_stores}
use Rattle.peer_state.specs.declared.state.Mode.{Mode}
use Rattle.tree_node.specs.declared.version.TreeVersion.{TreeVersion}
use Rattle.world_spec.specs.Nodes.{Node, Down, hashed_by_start, opening_strings}
use Rattle.world_spec.specs.Runs.{opening_mode}
use Rattle.world_spec.specs.Steps.{StartsAs}
use Rattle.world_model.specs.Peers.{node_of}
use Rattle.world_model.specs.Refusals.{IsCutOff}
use Rattle.world_model.proofs.Reached.{errs}
use Rattle.world_model.proofs.opening.started_peer.Goals as goal

-- the mode of a start that has sealing on if this is so, in this version of trees
abbrev by_form : Bool → TreeVersion → Mode
by_form seals tree = record { sealing = seals; tree = tree }

pub returns-in_err-start-clause-error : goal.returns-in_err-start-clause-error
returns-in_err-start-clause-error g c =
    let first = account g.H.Hasher16.kept g.H.Hasher16.clashes g.H.Hasher16.fulls c.args.hasher.now in
    let now = account g.H.Hasher16.kept g.H.Hasher16.clashes g.H.Hasher16.fulls c.start.new.hasher in
    let mode : by_form c.is_sealed.result c.tree_at_opening.result ≡ opening_mode c.args.form = λ i. by_form (c.is_sealed.ensures i) (c.tree_at_opening.ensures i) in
    errs (IsCutOff (opening_strings (opening_mode c.args.form) c.args.view) first now) c.from_residual.result _ c.in_err-start.field-0.0 c.from_residual.ensures.1 (λ d h. h)
    (subst (λ (m : Mode). IsCutOff (opening_strings m c.args.view) first now c.in_err-start.field-0.0) mode
    (subst (λ (n : Node). IsCutOff (hashed_by_start (by_form c.is_sealed.result c.tree_at_opening.result) c.args.view n) first now c.in_err-start.field-0.0) c.empty-peer.ensures.node c.in_err-start.ensures.error))

pub returns-clause-node : goal.returns-clause-node
returns-clause-node g c =
    let first = account g.H.Hasher16.kept g.H.Hasher16.clashes g.H.Hasher16.fulls c.args.hasher.now in
    let now = account g.H.Hasher16.kept g.H.Hasher16.clashes g.H.Hasher16.fulls c.start.new.hasher in
    let mode : by_form c.is_sealed.result c.tree_at_opening.result ≡ opening_mode c.args.form = λ i. by_form (c.is_sealed.ensures i) (c.tree_at_opening.ensures i) in
    subst (λ (m : Mode). StartsAs first now m c.args.view (Down empty_stores) (node_of c.start.new.self)) mode
    (subst (λ (n : Node). StartsAs first now (by_form c.is_sealed.result c.tree_at_opening.result) c.args.view n (node_of c.start.new.self)) c.empty-peer.ensures.node c.in_ok-start.ensures.ok)
