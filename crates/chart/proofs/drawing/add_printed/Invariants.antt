use Rattle.std.proofs.Common.{◌≡◌, ◌++◌, take, drop, map}
use Rattle.chart.specs.Notes.{note_line, printed_words}
use Rattle.chart.proofs.drawing.add_printed.Given as goal

abbrev pub invariant-loop-place : goal.invariant-loop-place
invariant-loop-place l = l.lines ≡ l.initial.lines ++ map (λ p. note_line l.before.peer (printed_words p)) (drop l.before.printed (take l.place l.printed))
