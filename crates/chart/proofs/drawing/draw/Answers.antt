use Rattle.std.proofs.Common.{◌≡◌, ◌++◌, ℕ, List, subst}
use Rattle.std.specs.Prelude.{OnOk}
use Rattle.world_model.specs.Worlds.{run_of}
use Rattle.world_model.proofs.Begins.{begins_same}
use Rattle.chart.proofs.Plain.{plain_lines}
use Rattle.chart.proofs.drawing.draw.Goals as goal

pub returns-in_err-add_waiting-in-Lose-clause-begins : goal.returns-in_err-add_waiting-in-Lose-clause-begins
returns-in_err-add_waiting-in-Lose-clause-begins g c = begins_same c.args.world.now

pub returns-in_default : goal.returns-in_default
returns-in_default g c = record {
  reaches = c.apply-in_default.ensures.reaches;
  begins = c.apply-in_default.ensures.begins;
  lines = subst (λ (l : List (List ℕ)). OnOk c.apply-in_default.result (c.apply-in_default.new.lines ≡ c.args.lines.now ++ l))
      (plain_lines c.args.event.now (run_of c.args.world.now) c.in_default.not-Deliver c.in_default.not-Pass c.in_default.not-Lose c.in_default.not-Calm c.in_default.not-CalmAmong) c.apply-in_default.ensures.lines;
}
