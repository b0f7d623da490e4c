use Rattle.std.proofs.Common.{rules, ◌≡◌, ◌-◌, ℕ, Some, List, [], refl, sym, subst, slice_get}
use Rattle.std.proofs.lemmas.Option.{slice_get_read}
use Rattle.world_spec.proofs.Taken.{hashed_none}
use Rattle.world_spec.specs.Held.{account, HasHashed}
use Rattle.world_spec.specs.PeerSpec.{AllMayGo}
use Rattle.step_plans.specs.Outboxes.{out_of}
use Rattle.world_spec.proofs.Growth.{further_same}
use Rattle.world_spec.specs.Nodes.{taken}
use Rattle.world_spec.specs.Runs.{stepped}
use Rattle.world_model.specs.Peers.{node_of}
use Rattle.world_model.specs.Refusals.{IsCutOff}
use Rattle.world_model.specs.Turns.{StopsTurn}
use Rattle.world_model.specs.Worlds.{run_of}
use Rattle.world_model.proofs.Begins.{begins_by}
use Rattle.world_model.proofs.Placed.{took, took_strings, still_numbered, still_few, has_number}
use Rattle.world_model.proofs.Reached.{refused_further, cut_off_refuses, adds_reaches, errs}
use Rattle.world_model.proofs.Turning.{adds_stops, cut_off_stops}
use Rattle.world_model.proofs.world.World.step_peer.Goals as goal

pub returns-then-place-len-clause-begins : goal.returns-then-place-len-clause-begins
returns-then-place-len-clause-begins g c = begins_by c.args.self.now c.args.self.now refl refl

pub invariant_of-self : goal.invariant_of-self
invariant_of-self g c =
    let at : slice_get c.args.self.now.peers.items (c.peer.inside.0 - 1) ≡ Some c.index_mut.result.now = search (rules, slice_get_read) in
    record {
      numbered = still_numbered c.args.self.now.peers.items (c.peer.inside.0 - 1) c.index_mut.result.now c.step.new.self at c.step.ensures.me c.args.self.now.numbered;
      few = still_few c.args.self.now.peers.items (c.peer.inside.0 - 1) c.step.new.self c.args.self.now.few;
      within = c.args.self.now.within;
    }

pub report-requires-clause-out : goal.report-requires-clause-out
report-requires-clause-out g c =
    let at : slice_get c.args.self.now.peers.items (c.peer.inside.0 - 1) ≡ Some c.index_mut.result.now = search (rules, slice_get_read) in
    let here : slice_get c.args.self.now.peers.items (c.args.peer - 1) ≡ Some c.index_mut.result.now = rw c.peer.view_is at at in
    let own = has_number c.args.self.now.peers.items c.args.peer c.index_mut.result.now c.requires.peer.0 here c.args.self.now.numbered in
    subst (λ (m : ℕ). AllMayGo m (out_of c.in_ok-out.out)) own c.in_ok-out.ensures.may_go

pub returns-in_err-out-clause-begins : goal.returns-in_err-out-clause-begins
returns-in_err-out-clause-begins g c = begins_by c.args.self.now _ refl refl

pub returns-in_err-out-clause-reaches : goal.returns-in_err-out-clause-reaches
returns-in_err-out-clause-reaches g c =
    let first = account g.H.Hasher16.kept g.H.Hasher16.clashes g.H.Hasher16.fulls c.args.hasher.now in
    let now = account g.H.Hasher16.kept g.H.Hasher16.clashes g.H.Hasher16.fulls c.step.new.hasher in
    let at : slice_get c.args.self.now.peers.items (c.peer.inside.0 - 1) ≡ Some c.index_mut.result.now = search (rules, slice_get_read) in
    let here : slice_get c.args.self.now.peers.items (c.args.peer - 1) ≡ Some c.index_mut.result.now = rw c.peer.view_is at at in
    let due = stepped c.args.peer c.args.event (run_of c.args.self.now) in
    let own = has_number c.args.self.now.peers.items c.args.peer c.index_mut.result.now c.requires.peer.0 here c.args.self.now.numbered in
    let strings = took_strings c.args.self.now.peers.items (run_of c.args.self.now) c.args.peer c.index_mut.result.now c.step.new.self refl here c.args.event own in
    refused_further [] due due first first now c.in_err-out.field-0.0 (hashed_none first) (further_same due)
    (cut_off_refuses first due now c.in_err-out.field-0.0 (subst (λ (h : List (List ℕ)). IsCutOff h first now c.in_err-out.field-0.0) (sym strings) c.in_err-out.ensures.error)) _ c.from_residual.result _ c.from_residual.ensures.1 (λ d h. h)

pub returns-clause-reaches : goal.returns-clause-reaches
returns-clause-reaches g c =
    let first = account g.H.Hasher16.kept g.H.Hasher16.clashes g.H.Hasher16.fulls c.args.hasher.now in
    let now = account g.H.Hasher16.kept g.H.Hasher16.clashes g.H.Hasher16.fulls c.step.new.hasher in
    let at : slice_get c.args.self.now.peers.items (c.peer.inside.0 - 1) ≡ Some c.index_mut.result.now = search (rules, slice_get_read) in
    let here : slice_get c.args.self.now.peers.items (c.args.peer - 1) ≡ Some c.index_mut.result.now = rw c.peer.view_is at at in
    let due = stepped c.args.peer c.args.event (run_of c.args.self.now) in
    let own = has_number c.args.self.now.peers.items c.args.peer c.index_mut.result.now c.requires.peer.0 here c.args.self.now.numbered in
    let strings = took_strings c.args.self.now.peers.items (run_of c.args.self.now) c.args.peer c.index_mut.result.now c.step.new.self refl here c.args.event own in
    adds_reaches first due now c.report.result _ _ c.report.ensures.reaches
    (rw c.peer.view_is (took c.args.self.now.peers.items (run_of c.args.self.now) c.args.peer c.index_mut.result.now c.step.new.self refl here c.args.event
    (out_of c.in_ok-out.out) c.in_ok-out.out.notes.items (taken c.index_mut.result.now.me c.args.event (node_of c.index_mut.result.now)).hashed own c.in_ok-out.ensures.taken.is))
    (subst (λ (h : List (List ℕ)). HasHashed h first now) (sym strings) c.in_ok-out.ensures.taken.has)

pub returns-in_err-out-clause-stops : goal.returns-in_err-out-clause-stops
returns-in_err-out-clause-stops g c =
    let first = account g.H.Hasher16.kept g.H.Hasher16.clashes g.H.Hasher16.fulls c.args.hasher.now in
    let now = account g.H.Hasher16.kept g.H.Hasher16.clashes g.H.Hasher16.fulls c.step.new.hasher in
    let at : slice_get c.args.self.now.peers.items (c.peer.inside.0 - 1) ≡ Some c.index_mut.result.now = search (rules, slice_get_read) in
    let here : slice_get c.args.self.now.peers.items (c.args.peer - 1) ≡ Some c.index_mut.result.now = rw c.peer.view_is at at in
    let due = stepped c.args.peer c.args.event (run_of c.args.self.now) in
    let own = has_number c.args.self.now.peers.items c.args.peer c.index_mut.result.now c.requires.peer.0 here c.args.self.now.numbered in
    let strings = took_strings c.args.self.now.peers.items (run_of c.args.self.now) c.args.peer c.index_mut.result.now c.step.new.self refl here c.args.event own in
    errs (StopsTurn first due now) c.from_residual.result _ c.in_err-out.field-0.0 c.from_residual.ensures.1 (λ d h. h)
    (cut_off_stops first due now c.in_err-out.field-0.0 (subst (λ (h : List (List ℕ)). IsCutOff h first now c.in_err-out.field-0.0) (sym strings) c.in_err-out.ensures.error))

pub returns-clause-stops : goal.returns-clause-stops
returns-clause-stops g c =
    let first = account g.H.Hasher16.kept g.H.Hasher16.clashes g.H.Hasher16.fulls c.args.hasher.now in
    let now = account g.H.Hasher16.kept g.H.Hasher16.clashes g.H.Hasher16.fulls c.step.new.hasher in
    let at : slice_get c.args.self.now.peers.items (c.peer.inside.0 - 1) ≡ Some c.index_mut.result.now = search (rules, slice_get_read) in
    let here : slice_get c.args.self.now.peers.items (c.args.peer - 1) ≡ Some c.index_mut.result.now = rw c.peer.view_is at at in
    let due = stepped c.args.peer c.args.event (run_of c.args.self.now) in
    let own = has_number c.args.self.now.peers.items c.args.peer c.index_mut.result.now c.requires.peer.0 here c.args.self.now.numbered in
    let strings = took_strings c.args.self.now.peers.items (run_of c.args.self.now) c.args.peer c.index_mut.result.now c.step.new.self refl here c.args.event own in
    adds_stops first due now c.report.result _ _ c.report.ensures.reaches
    (rw c.peer.view_is (took c.args.self.now.peers.items (run_of c.args.self.now) c.args.peer c.index_mut.result.now c.step.new.self refl here c.args.event
    (out_of c.in_ok-out.out) c.in_ok-out.out.notes.items (taken c.index_mut.result.now.me c.args.event (node_of c.index_mut.result.now)).hashed own c.in_ok-out.ensures.taken.is))
    (subst (λ (h : List (List ℕ)). HasHashed h first now) (sym strings) c.in_ok-out.ensures.taken.has)
