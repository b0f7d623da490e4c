use Rattle.chart.proofs.lines.Lines.change.Goals as goal

pub returns : goal.returns
returns c = rw c.activity_word.ensures at (rw c.activity_word-2.ensures at c.words.ensures)
