use Rattle.std.proofs.Common.{◌≤◌, ◌-◌, vec_len}
use Rattle.std.specs.Io.KnownBytes.{prepend_known, Keeps}
use Rattle.backup_job.proofs.input.read_all.Given as goal

abbrev pub invariant-loop-bytes : goal.invariant-loop-bytes
invariant-loop-bytes g l = record {
  kept : Keeps (g.S.Source.left l.fn.input) (prepend_known l.bytes.items (g.S.Source.left l.input));
  most : vec_len l.bytes ≤ 268435457;
  later : g.S.Source.fault_count l.fn.input ≤ g.S.Source.fault_count l.input;
}

abbrev pub decreases-loop-bytes : goal.decreases-loop-bytes
decreases-loop-bytes g l = 268435457 - vec_len l.bytes
