use Rattle.std.proofs.Common.{string_bytes, rules}
use Rattle.chart.proofs.Shown.{dropped, same_next, other_next}
use Rattle.chart.proofs.text.push_lines.Goals.{then-eq, else-eq+in_ok-push_line}
use Rattle.chart.proofs.text.push_lines.Goals as goal

pub loop-place-preserved : goal.loop-place-preserved
loop-place-preserved c =
    let is = dropped string_bytes c.args.lines.now c.loop-place.place c.index-lines-place.result c.loop-place-test.true c.index-lines-place.is in
    elim c.if-eq.branch [
      | then-eq w ↦ (rw w.text-is (rw w.line-is (rw w.count-is (same_next (string_bytes c.loop-place.text) _ _ c.loop-place.count _ _ _ is (search rules) c.loop-place.invariant.0))), search rules, search rules)
      | else-eq+in_ok-push_line w ↦ (rw w.text-is (rw w.line-is (rw w.count-is (other_next (string_bytes c.loop-place.text) (string_bytes w.push_line.new.text) _ _ c.loop-place.count _ _ _ is (search rules) c.loop-place.invariant.0 (search rules)))), search rules, search rules)
    ]
