use Rattle.std.proofs.Common.{◌≡◌, ◌⊎◌, ◌≤◌, length, vec_len}
use Rattle.std.specs.Io.KnownBytes.{prepend_known, Keeps}
use Rattle.environment.proofs.lines.Lines.next.Given as goal

abbrev pub invariant-loop-turn : goal.invariant-loop-turn
invariant-loop-turn g l = record {
  kept : Keeps (prepend_known l.fn.self.pending.items (g.S.Source.left l.fn.source)) (prepend_known l.self.pending.items (g.S.Source.left l.source));
  later : g.S.Source.fault_count l.fn.source ≤ g.S.Source.fault_count l.source;
  few : l.turn ≤ 4401;
  long : l.turn ≤ vec_len l.self.pending;
  taken : (g.S.Source.left l.source ≡ g.S.Source.left l.fn.source) ⊎ (length l.self.pending.items ≤ 4401);
}
