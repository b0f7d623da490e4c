use Rattle.std.proofs.Common.{◌≡◌, ℕ, ◌+◌, ◌-◌, ◌<◌, ◌≤◌, length, drop, subst, ◌∙◌, arith}
use Rattle.std.specs.List.{list_any}
use Rattle.history_record.specs.Clauses.{first_late, was_done_before}
use Rattle.history_record.specs.Lookups.{is_before}
use Rattle.history_record.proofs.Walks.{earliest_step, late_step}
use Rattle.history_record.proofs.late.first_late.Goals as goal

pub loop-place-preserved : goal.loop-place-preserved
loop-place-preserved c =
    let calls = c.args.calls.now in
    let answers = c.args.answers.now in
    let order = c.args.order.now in
    let place = c.loop-place.place in
    let some : 0 < place = c.loop-place-test.true in
    let bound : place ≤ length order = c.loop-place.invariant.bound in
    let back : place ≡ place - 1 + 1 = omega arith in
    let within : place - 1 < length order = omega arith in
    let Found : ℕ → Type 0 = λ n. c.loop-place.found ≡ first_late calls answers (drop n order) in
    let Earliest : ℕ → Type 0 = λ n. (event : ℕ) → list_any (was_done_before answers event) (drop n order) ≡ is_before c.loop-place.earliest event in
    let found : Found (place - 1 + 1) = subst Found back c.loop-place.invariant.found in
    let earliest : Earliest (place - 1 + 1) = subst Earliest back c.loop-place.invariant.earliest in
    record {
      bound = omega arith;
      found = c.or_found-found.ensures ∙ late_step calls answers order (place - 1) 0 within c.began_after-is_late.result c.loop-place.earliest c.loop-place.found c.began_after-is_late.ensures earliest found;
      earliest = earliest_step calls answers order (place - 1) 0 within c.done_at.result c.loop-place.earliest c.earlier-earliest.result c.done_at.ensures earliest c.earlier-earliest.ensures;
    }
