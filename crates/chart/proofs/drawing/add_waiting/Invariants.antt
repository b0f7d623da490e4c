use Rattle.std.proofs.Common.{◌≡◌, ◌++◌, take, map}
use Rattle.world_model.specs.Worlds.{run_of}
use Rattle.chart.specs.Lines.{is_which, waiting}
use Rattle.chart.specs.Notes.{arrow_line}
use Rattle.chart.proofs.drawing.add_waiting.Given as goal

abbrev pub invariant-loop-number : goal.invariant-loop-number
invariant-loop-number l = l.lines ≡ l.initial.lines ++ map (arrow_line l.fate) (waiting (is_which l.which) (take l.number l.sent) (run_of l.world).mail.waits)
