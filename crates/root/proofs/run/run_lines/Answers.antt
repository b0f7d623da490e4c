use Rattle.std.proofs.Common.{arith, ◌<◌, ◌≤◌, Option, length, subst}
use Rattle.std.proofs.lemmas.Grind.{common_steps}
use Rattle.hash_book.specs.Hashing.{Book}
use Rattle.world_spec.proofs.Taken.{are_apart}
use Rattle.world_spec.specs.Held.{HasTaken}
use Rattle.replay.proofs.WorldModel.{errs}
use Rattle.root.specs.Ends.{IsStopped}
use Rattle.root.specs.Hashed.{hashed_by}
use Rattle.root.proofs.Steps.{doing_last, doing_next, opening_stops, stops}
use Rattle.root.proofs.run.run_lines.Goals as goal
use Rattle.world_refinement.proofs.Schedules.{node_at}

pub returns-in_err-run-clause-stops : goal.returns-in_err-run-clause-stops
returns-in_err-run-clause-stops g c = errs (IsStopped c.args.script.now _ _) c.from_residual-in_err-run.result _ c.in_err-run.field-0.0 c.from_residual-in_err-run.ensures.1 (λ d e. e) (opening_stops c.args.script.now _ _ c.in_err-run.field-0.0 c.in_err-run.ensures.error)

pub returns-in_err-apply-clause-stops : goal.returns-in_err-apply-clause-stops
returns-in_err-apply-clause-stops g c =
    let within : c.loop-place.place < length c.args.script.now.events = grind (arith, common_steps, c.as_slice-place-end.ensures) in
    let few : c.loop-place.place ≤ length c.args.script.now.events = omega (arith, within) in
    let at = node_at c.args.script.now.events c.loop-place.place within in
    let old = c.loop-place.invariant in
    errs (IsStopped c.args.script.now _ _) c.from_residual-in_err-apply.result _ c.in_err-apply.field-0.0 c.from_residual-in_err-apply.ensures.1 (λ d e. e)
    (stops c.args.script.now c.loop-place.place _ c.loop-place.run c.apply.new.self _ _ at.0 at.1 few old (Unit {0}) c.in_err-apply.field-0.0 (c.in_err-apply.ensures.goes _ at.0 at.1 old.stands) (c.in_err-apply.ensures.stops _ at.0 at.1 old.stands))

pub loop-place-preserved : goal.loop-place-preserved
loop-place-preserved g c =
    let within : c.loop-place.place < length c.args.script.now.events = grind (arith, common_steps, c.as_slice-place-end.ensures) in
    let few : c.loop-place.place ≤ length c.args.script.now.events = omega (arith, within) in
    let at = node_at c.args.script.now.events c.loop-place.place within in
    let old = c.loop-place.invariant in
    doing_next c.args.script.now c.loop-place.place _ c.loop-place.run c.apply.new.self _ _ at.0 at.1 few old (c.in_ok-apply.ensures.goes _ at.0 at.1 old.stands)

pub returns-clause-apart : goal.returns-clause-apart
returns-clause-apart g c = λ told.
    let past : length c.args.script.now.events ≤ c.loop-place.place = grind (arith, common_steps, c.loop-place-test.false, c.as_slice-place-end.ensures) in
    let strings = hashed_by c.args.script.now in
    let has = (doing_last c.args.script.now c.loop-place.place _ c.loop-place.run _ past c.loop-place.invariant).1 in
    are_apart strings told.0 (g.H.Hasher16.kept c.loop-place.hasher) (subst (λ (k : Option Book). HasTaken strings k (g.H.Hasher16.kept c.loop-place.hasher)) told.1 has.taken) (g.met.H.Hasher16.clash_free c.loop-place.hasher)
