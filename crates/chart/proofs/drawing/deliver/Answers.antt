use Rattle.std.proofs.Common.{arith, ◌≡◌, ◌≤◌, Some, length, slice_get}
use Rattle.std.proofs.lemmas.Grind.{common_steps}
use Rattle.std.proofs.lemmas.Option.{slice_get_read, slice_get_past}
use Rattle.world_model.specs.Worlds.{run_of}
use Rattle.world_model.proofs.Begins.{begins_same}
use Rattle.chart.proofs.Steps.{delivery_drawn, no_delivery, on_any}
use Rattle.chart.proofs.drawing.deliver.Goals as goal

pub returns-in_default-clause-lines : goal.returns-in_default-clause-lines
returns-in_default-clause-lines g c =
    let past : length c.args.world.now.network.sent ≤ c.args.number = grind (arith, common_steps, c.in_default.ensures.lookup, c.sent.ensures.sent) in
    on_any _ c.deliver.result (no_delivery c.args.lines.now c.args.number (run_of c.args.world.now) (slice_get_past c.args.world.now.network.sent c.args.number past))

pub returns-in_err-arrow-clause-begins : goal.returns-in_err-arrow-clause-begins
returns-in_err-arrow-clause-begins g c = begins_same c.args.world.now

pub returns-clause-lines : goal.returns-clause-lines
returns-clause-lines g c =
    let here : slice_get c.args.world.now.network.sent c.args.number ≡ Some c.in-Some.frame.now = grind (arith, common_steps, slice_get_read, c.in-Some.ensures.lookup, c.sent.ensures.sent) in
    delivery_drawn c.args.lines.now c.arrow.new.self c.add_step.new.lines c.args.number c.in-Some.frame.now (run_of c.args.world.now) (run_of c.deliver-2.new.self) c.fate_at-fate.result c.is_stale.result c.of-before.result.peer c.of-before.result.printed c.of-before.result.activity
    here c.of-before.ensures.peer c.of-before.ensures.printed c.of-before.ensures.activity c.is_stale.ensures c.fate_at-fate.ensures c.in_ok-arrow.ensures c.in_ok-deliver.ensures.reaches.0 c.in_ok-add_step.ensures
