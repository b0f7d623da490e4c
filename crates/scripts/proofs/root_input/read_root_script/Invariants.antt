use Rattle.std.proofs.Common.{◌≡◌, ◌≤◌}
use Rattle.std.specs.Io.KnownBytes.{prepend_known}
use Rattle.schedule_input.specs.Counting.{HasCounted, IsReached}
use Rattle.schedule_input.specs.LineReading.{ReadsOn}
use Rattle.scripts.specs.Progress.{Blank, lines_so_far}
use Rattle.scripts.specs.RootReading.{ended, next_line}
use Rattle.scripts.proofs.root_input.read_root_script.Given as goal

abbrev pub invariant-loop-turn : goal.invariant-loop-turn
invariant-loop-turn g l = record {
  reads : ReadsOn next_line ended (g.S.Source.left l.fn.input) Blank (prepend_known l.lines.pending.items (g.S.Source.left l.input)) l.reading;
  reached : IsReached next_line ended Blank l.reading;
  taken : HasCounted next_line ended Blank lines_so_far (g.S.Source.left l.fn.input) l.lines.pending.items (g.S.Source.left l.input) l.reading;
  count : lines_so_far l.reading ≡ l._turn;
  later : g.S.Source.fault_count l.fn.input ≤ g.S.Source.fault_count l.input;
}
