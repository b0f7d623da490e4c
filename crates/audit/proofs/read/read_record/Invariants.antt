use Rattle.std.proofs.Common.{◌≡◌, ◌+◌, ◌≤◌, length}
use Rattle.std.specs.Io.KnownBytes.{prepend_known}
use Rattle.history_record.specs.Reading.{first_stage, lines_of, most_in}
use Rattle.audit.specs.Reading.{HasTaken, ReadsAlike}
use Rattle.audit.proofs.read.read_record.Given as goal

abbrev pub invariant-loop-turn : goal.invariant-loop-turn
invariant-loop-turn g l = record {
  reads : ReadsAlike (g.S.Source.left l.fn.input) first_stage (prepend_known l.lines.pending.items (g.S.Source.left l.input)) l.reading;
  taken : HasTaken (g.S.Source.left l.fn.input) l.lines.pending.items (g.S.Source.left l.input) l.reading;
  held : length l.lines.pending.items ≤ most_in l.reading + 1;
  count : lines_of l.reading ≡ l._turn;
  few : lines_of l.reading ≤ 800004;
  later : g.S.Source.fault_count l.fn.input ≤ g.S.Source.fault_count l.input;
}
