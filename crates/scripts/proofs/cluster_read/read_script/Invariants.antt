use Rattle.std.proofs.Common.{◌≡◌, ◌≤◌, [], length}
use Rattle.std.specs.Io.KnownBytes.{prepend_known}
use Rattle.schedule_input.specs.Counting.{HasCounted}
use Rattle.schedule_input.specs.LineReading.{ReadsOn}
use Rattle.scripts.specs.Scripts.{IsScript, ended, next_line}
use Rattle.scripts.proofs.cluster_read.read_script.Given as goal

abbrev pub invariant-loop-turn : goal.invariant-loop-turn
invariant-loop-turn g l = record {
  reads : ReadsOn (next_line l.peers) ended (g.S.Source.left l.fn.input) [] (prepend_known l.lines.pending.items (g.S.Source.left l.input)) l.reading.lines.items;
  taken : HasCounted (next_line l.peers) ended [] length (g.S.Source.left l.fn.input) l.lines.pending.items (g.S.Source.left l.input) l.reading.lines.items;
  peers : l.reading.peers ≡ l.peers;
  stands : l.peers ≤ 31 → IsScript l.peers l.reading.lines.items;
  count : length l.reading.lines.items ≡ l._turn;
  later : g.S.Source.fault_count l.fn.input ≤ g.S.Source.fault_count l.input;
}
