use Rattle.world_model.specs.Worlds.{run_of}
use Rattle.chart.specs.Lines.{is_which}
use Rattle.chart.proofs.Arrows.{arrows_next}
use Rattle.chart.proofs.drawing.add_waiting.Goals as goal

pub loop-number-preserved : goal.loop-number-preserved
loop-number-preserved c =
    arrows_next c.args.fate (is_which c.args.which.now) c.loop-number.number _ (run_of c.args.world.now).mail.waits c.index-sent-number.result _ _ _ _ c.loop-number-test.true c.index-sent-number.is c.is_waiting-wanted.ensures c.loop-number.invariant
    c.in_ok-add_arrow.ensures
