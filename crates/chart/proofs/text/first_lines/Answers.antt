use Rattle.std.proofs.Common.{sym, arith, string_bytes}
use Rattle.std.proofs.lemmas.List.{length-map, length-take-le, take_all, take-map}
use Rattle.chart.proofs.text.first_lines.Goals as goal

pub returns-then-lines-le-MOST_LINES : goal.returns-then-lines-le-MOST_LINES
returns-then-lines-le-MOST_LINES c = sym (take_all 500 _ (rw (length-map c.args.lines.now string_bytes) c.if-lines-le-MOST_LINES.true))

pub slice_bounds-result-end : goal.slice_bounds-result-end
slice_bounds-result-end c = sym (length-take-le 500 c.args.lines.now (omega (arith, c.if-lines-le-MOST_LINES.false)))

pub returns : goal.returns
returns c = sym (take-map string_bytes 500 c.args.lines.now)
