use Rattle.std.proofs.Common.{◌≡◌, ◌++◌, ◌≤◌, drop, map, string_bytes}
use Rattle.chart.specs.Text.{shown, shown_after}
use Rattle.chart.proofs.text.push_lines.Given as goal

abbrev pub invariant-loop-place : goal.invariant-loop-place
invariant-loop-place l =
    (string_bytes l.text ++ shown_after (string_bytes l.line) l.count (drop l.place (map string_bytes l.lines)) ≡ string_bytes l.initial.text ++ shown (map string_bytes l.lines))
    × (1 ≤ l.count) × (l.count ≤ l.place)
