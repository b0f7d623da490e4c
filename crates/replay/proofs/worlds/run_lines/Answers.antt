use Rattle.std.proofs.Common.{arith, rules, ◌≡◌, ◌∙◌, ◌≤◌, Option, Some, length, sym, subst, slice_get}
use Rattle.std.proofs.lemmas.Grind.{common_steps}
use Rattle.std.proofs.lemmas.List.{length-map}
use Rattle.std.proofs.lemmas.Option.{slice_get_read}
use Rattle.hash_book.specs.Hashing.{Book}
use Rattle.world_model.proofs.WorldSpec.{are_apart}
use Rattle.world_model.specs.WorldSpec.{HasTaken}
use Rattle.world_model.specs.Peers.{node_of}
use Rattle.world_model.specs.Worlds.{run_of}
use Rattle.world_model.proofs.Events.{stands_at}
use Rattle.replay.specs.Jobs.{hashed_by}
use Rattle.replay.proofs.Stops.{doing_first, doing_last, doing_next, opening_stops_in, stops_in}
use Rattle.replay.proofs.worlds.run_lines.Goals as goal

pub returns-in_err-world-clause-stops : goal.returns-in_err-world-clause-stops
returns-in_err-world-clause-stops g c = opening_stops_in c.args.schedule.now _ _ c.from_residual.result _ c.in_err-world.field-0.0 c.from_residual.ensures.1 (λ d h. h) c.in_err-world.ensures.error

pub loop-place-init : goal.loop-place-init
loop-place-init g c = doing_first c.args.schedule.now _ (run_of c.in_ok-world.world) _ c.in_ok-world.ensures.ok c.in_ok-world.ensures.hashed

pub apply-requires : goal.apply-requires
apply-requires g c =
    let here : slice_get c.args.schedule.now.events c.loop-place.place ≡ Some c.index-events-place.result = grind (arith, common_steps, slice_get_read, c.as_slice-events.ensures) in
    (search rules, rw (sym (length-map c.loop-place.world.peers.items node_of) ∙ c.loop-place.invariant.many) (stands_at c.args.schedule.now.peers c.args.schedule.now.events c.loop-place.place c.index-events-place.result c.requires.events here))

pub returns-in_err-apply-clause-stops : goal.returns-in_err-apply-clause-stops
returns-in_err-apply-clause-stops g c =
    let here : slice_get c.args.schedule.now.events c.loop-place.place ≡ Some c.index-events-place.result = grind (arith, common_steps, slice_get_read, c.as_slice-events.ensures) in
    stops_in c.args.schedule.now c.loop-place.place _ (run_of c.loop-place.world) _ c.index-events-place.result here c.loop-place.invariant c.from_residual-in_err-apply.result _ c.in_err-apply.field-0.0 _ c.from_residual-in_err-apply.ensures.1
    (λ d h. h) c.in_err-apply.ensures.stops

pub loop-place-preserved : goal.loop-place-preserved
loop-place-preserved g c =
    let here : slice_get c.args.schedule.now.events c.loop-place.place ≡ Some c.index-events-place.result = grind (arith, common_steps, slice_get_read, c.as_slice-events.ensures) in
    doing_next c.args.schedule.now c.loop-place.place _ (run_of c.loop-place.world) _ c.index-events-place.result here c.loop-place.invariant (run_of c.apply.new.self) _ c.in_ok-apply.ensures.reaches.0 c.in_ok-apply.ensures.reaches.1
    c.in_ok-apply.ensures.reaches.2

pub returns-clause-reaches : goal.returns-clause-reaches
returns-clause-reaches g c =
    let past : length c.args.schedule.now.events ≤ c.loop-place.place = grind (arith, common_steps, c.loop-place-test.false, c.as_slice-events.ensures) in
    doing_last c.args.schedule.now c.loop-place.place _ (run_of c.loop-place.world) _ past c.loop-place.invariant

pub returns-clause-apart : goal.returns-clause-apart
returns-clause-apart g c = λ told.
    let past : length c.args.schedule.now.events ≤ c.loop-place.place = grind (arith, common_steps, c.loop-place-test.false, c.as_slice-events.ensures) in
    let strings = hashed_by c.args.schedule.now in
    let has = (doing_last c.args.schedule.now c.loop-place.place _ (run_of c.loop-place.world) _ past c.loop-place.invariant).2 in
    are_apart strings told.0 (g.H.Hasher16.kept c.loop-place.hasher) (subst (λ (k : Option Book). HasTaken strings k (g.H.Hasher16.kept c.loop-place.hasher)) told.1 has.taken) (g.met.H.Hasher16.clash_free c.loop-place.hasher)
