use Rattle.std.proofs.Common.{◌≤◌, ◌+◌, take, length, vec_len}
use Rattle.std.specs.Io.KnownBytes.{prepend_known, Keeps}
use Rattle.environment.specs.Lines.{HasNoFeed}
use Rattle.audit.proofs.lines.RecordLines.next.Given as goal

abbrev pub invariant-loop-turn : goal.invariant-loop-turn
invariant-loop-turn g l = record {
  kept : Keeps (prepend_known l.fn.self.pending.items (g.S.Source.left l.fn.source)) (prepend_known l.self.pending.items (g.S.Source.left l.source));
  later : g.S.Source.fault_count l.fn.source ≤ g.S.Source.fault_count l.source;
  few : l.turn ≤ l.most + 1;
  long : l.turn ≤ vec_len l.self.pending;
  searched : l.searched ≤ length l.self.pending.items;
  short : l.searched ≤ l.most + 1;
  held : length l.self.pending.items ≤ l.most + 1;
  clear : HasNoFeed (take l.searched l.self.pending.items);
}
