use Rattle.chart.specs.Notes.{note_line, printed_words}
use Rattle.chart.proofs.Since.{since_next}
use Rattle.chart.proofs.drawing.add_printed.Goals as goal

pub loop-place-preserved : goal.loop-place-preserved
loop-place-preserved c =
    since_next (λ p. note_line c.args.before.now.peer (printed_words p)) _ c.args.before.now.printed c.loop-place.place c.index-printed-place.result _ _ _ c.loop-place.auto.place c.loop-place-test.true c.index-printed-place.is c.loop-place.invariant
    c.in_ok-printed.ensures
