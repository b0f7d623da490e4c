use Rattle.std.proofs.Common.{arith, ◌≡◌, ◌<◌, ◌≤◌, ◌∙◌, Some, length, slice_get, ap}
use Rattle.std.proofs.lemmas.Grind.{common_steps}
use Rattle.replay.specs.WorldModel.{run_of}
use Rattle.root.proofs.Steps.{after_lines, goes_err, lines_next, lines_refused}
use Rattle.root.proofs.worlds.RootWorlds.open_told.Goals as goal
use Rattle.world_refinement.proofs.Schedules.{node_at}

pub returns-in_err-open_by-clause-goes : goal.returns-in_err-open_by-clause-goes
returns-in_err-open_by-clause-goes g c = λ r h.
    let printed = (run_of c.args.self.now.root).printed in
    let within : c.loop-place.place < length printed = grind (arith, common_steps) in
    let low : c.args.before ≤ c.loop-place.place = grind (arith, common_steps) in
    let high : c.loop-place.place ≤ length printed = omega (arith, within) in
    let at = node_at printed c.loop-place.place within in
    let old = c.loop-place.invariant.goes r h in
    let here : slice_get (run_of c.loop-place.self.root).printed c.loop-place.place ≡ Some at.0 = ap (λ w. slice_get (run_of w).printed c.loop-place.place) c.loop-place.invariant.root ∙ at.1 in
    goes_err c.args.script.now _ (Unit {0}) _ _ _ _ c.from_residual.result _ c.in_err-open_by.field-0.0 c.from_residual.ensures.1 (λ d e. e)
    (lines_refused c.args.script.now c.args.number c.args.before printed r c.loop-place.place at.0 at.1 low high (Unit {0}) c.open_by.new.self _ _ _ c.in_err-open_by.field-0.0 (Unit {0}) r old.1 (c.in_err-open_by.ensures.goes (after_lines c.args.script.now c.args.number c.args.before printed r c.loop-place.place) at.0 here old.0))

pub loop-place-preserved : goal.loop-place-preserved
loop-place-preserved g c =
    let printed = (run_of c.args.self.now.root).printed in
    let within : c.loop-place.place < length printed = grind (arith, common_steps) in
    let low : c.args.before ≤ c.loop-place.place = grind (arith, common_steps) in
    let high : c.loop-place.place ≤ length printed = omega (arith, within) in
    let at = node_at printed c.loop-place.place within in
    let here : slice_get (run_of c.loop-place.self.root).printed c.loop-place.place ≡ Some at.0 = ap (λ w. slice_get (run_of w).printed c.loop-place.place) c.loop-place.invariant.root ∙ at.1 in
    record {
      root = c.in_ok-open_by.ensures.root ∙ c.loop-place.invariant.root;
      goes = λ r h.
          let old = c.loop-place.invariant.goes r h in
          lines_next c.args.script.now c.args.number c.args.before printed r c.loop-place.place at.0 at.1 low high c.open_by.new.self _ _ _ old.1 (c.in_ok-open_by.ensures.goes (after_lines c.args.script.now c.args.number c.args.before printed r c.loop-place.place) at.0 here old.0);
    }
