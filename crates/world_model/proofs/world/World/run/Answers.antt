use Rattle.std.proofs.Common.{arith, rules, ◌≡◌, ◌∙◌, ◌≤◌, Option, Some, [], length, sym, subst, slice_get}
use Rattle.std.proofs.lemmas.Grind.{common_steps}
use Rattle.std.proofs.lemmas.List.{length-map}
use Rattle.std.proofs.lemmas.Option.{slice_get_read}
use Rattle.hash_book.specs.Hashing.{Book}
use Rattle.world_spec.proofs.Taken.{are_apart, hashed_none}
use Rattle.world_spec.specs.Held.{HasTaken}
use Rattle.world_spec.specs.Lines.{applied, run_of_schedule}
use Rattle.world_spec.specs.Runs.{opening_run}
use Rattle.world_model.specs.Peers.{node_of}
use Rattle.world_model.specs.Worlds.{run_of}
use Rattle.world_model.proofs.Events.{running_first, running_next, running_longer, running_last, opening_longer, stands_at}
use Rattle.world_model.proofs.Reached.{cut_off_refuses, refused_run, led_to}
use Rattle.world_model.proofs.world.World.run.Goals as goal

pub returns-in_err-world-clause-reaches : goal.returns-in_err-world-clause-reaches
returns-in_err-world-clause-reaches g c =
    let opening = opening_run c.args.schedule.now.form c.args.schedule.now.peers c.args.schedule.now.view in
    refused_run [] opening (run_of_schedule c.args.schedule.now.form c.args.schedule.now.peers c.args.schedule.now.view c.args.schedule.now.events) _ _ _ c.in_err-world.field-0.0 (hashed_none _)
    (opening_longer c.args.schedule.now.form c.args.schedule.now.peers c.args.schedule.now.view c.args.schedule.now.events) (cut_off_refuses _ opening _ c.in_err-world.field-0.0 c.in_err-world.ensures.error)
    c.from_residual.result _ c.from_residual.ensures.1 (λ d h. h)

pub loop-place-init : goal.loop-place-init
loop-place-init g c = running_first c.args.schedule.now.form c.args.schedule.now.peers c.args.schedule.now.view c.args.schedule.now.events _ (run_of c.in_ok-world.world) _ c.in_ok-world.ensures.ok c.in_ok-world.ensures.hashed

pub apply-requires : goal.apply-requires
apply-requires g c =
    let here : slice_get c.args.schedule.now.events c.loop-place.place ≡ Some c.index-events-place.result = grind (arith, common_steps, slice_get_read, c.as_slice-events.ensures) in
    (search rules, rw (sym (length-map c.loop-place.world.peers.items node_of) ∙ c.loop-place.invariant.many) (stands_at c.args.schedule.now.peers c.args.schedule.now.events c.loop-place.place c.index-events-place.result c.requires.events here))

pub returns-in_err-apply-clause-reaches : goal.returns-in_err-apply-clause-reaches
returns-in_err-apply-clause-reaches g c =
    let here : slice_get c.args.schedule.now.events c.loop-place.place ≡ Some c.index-events-place.result = grind (arith, common_steps, slice_get_read, c.as_slice-events.ensures) in
    refused_run c.loop-place.invariant.strings (applied c.index-events-place.result (run_of c.loop-place.world)) (run_of_schedule c.args.schedule.now.form c.args.schedule.now.peers c.args.schedule.now.view c.args.schedule.now.events) _ _ _ c.in_err-apply.field-0.0
    c.loop-place.invariant.has
    (running_longer c.args.schedule.now.form c.args.schedule.now.peers c.args.schedule.now.view c.args.schedule.now.events c.loop-place.place _ (run_of c.loop-place.world) _ c.index-events-place.result here c.loop-place.invariant)
    c.in_err-apply.ensures.reaches c.from_residual-in_err-apply.result _ c.from_residual-in_err-apply.ensures.1 (λ d h. h)

pub loop-place-preserved : goal.loop-place-preserved
loop-place-preserved g c =
    let here : slice_get c.args.schedule.now.events c.loop-place.place ≡ Some c.index-events-place.result = grind (arith, common_steps, slice_get_read, c.as_slice-events.ensures) in
    running_next c.args.schedule.now.form c.args.schedule.now.peers c.args.schedule.now.view c.args.schedule.now.events c.loop-place.place _ (run_of c.loop-place.world) _ c.index-events-place.result here c.loop-place.invariant
    (run_of c.apply.new.self) _ c.in_ok-apply.ensures.reaches.0 c.in_ok-apply.ensures.reaches.2 c.apply.new.self.within

pub returns-clause-reaches : goal.returns-clause-reaches
returns-clause-reaches g c =
    let past : length c.args.schedule.now.events ≤ c.loop-place.place = grind (arith, common_steps, c.loop-place-test.false, c.as_slice-events.ensures) in
    let is = running_last c.args.schedule.now.form c.args.schedule.now.peers c.args.schedule.now.view c.args.schedule.now.events c.loop-place.place _ (run_of c.loop-place.world) _ past c.loop-place.invariant in
    led_to c.loop-place.invariant.strings c.loop-place.world (run_of_schedule c.args.schedule.now.form c.args.schedule.now.peers c.args.schedule.now.view c.args.schedule.now.events) _ _ is c.loop-place.world.within c.loop-place.invariant.has

pub returns-clause-apart : goal.returns-clause-apart
returns-clause-apart g c = λ told.
    let past : length c.args.schedule.now.events ≤ c.loop-place.place = grind (arith, common_steps, c.loop-place-test.false, c.as_slice-events.ensures) in
    let whole = run_of_schedule c.args.schedule.now.form c.args.schedule.now.peers c.args.schedule.now.view c.args.schedule.now.events in
    let is = running_last c.args.schedule.now.form c.args.schedule.now.peers c.args.schedule.now.view c.args.schedule.now.events c.loop-place.place _ (run_of c.loop-place.world) _ past c.loop-place.invariant in
    let has = (led_to c.loop-place.invariant.strings c.loop-place.world whole _ _ is c.loop-place.world.within c.loop-place.invariant.has).2 in
    are_apart whole.hashed told.0 (g.H.Hasher16.kept c.loop-place.hasher) (subst (λ (k : Option Book). HasTaken whole.hashed k (g.H.Hasher16.kept c.loop-place.hasher)) told.1 has.taken) (g.met.H.Hasher16.clash_free c.loop-place.hasher)
