use Rattle.std.proofs.Common.{◌≡◌, ◌≤◌}
use Rattle.std.specs.Io.KnownBytes.{prepend_known}
use Rattle.schedule_text.specs.Progress.{Blank, lines_so_far}
use Rattle.schedule_input.specs.Reading.{HasTaken, IsReached, ReadsOn}
use Rattle.schedule_input.proofs.read.read_schedule.Given as goal

abbrev pub invariant-loop-turn : goal.invariant-loop-turn
invariant-loop-turn g l = record {
  reads : ReadsOn (g.S.Source.left l.fn.input) Blank (prepend_known l.lines.pending.items (g.S.Source.left l.input)) l.reading;
  reached : IsReached l.reading;
  taken : HasTaken (g.S.Source.left l.fn.input) l.lines.pending.items (g.S.Source.left l.input) l.reading;
  count : lines_so_far l.reading ≡ l._turn;
  later : g.S.Source.fault_count l.fn.input ≤ g.S.Source.fault_count l.input;
}
