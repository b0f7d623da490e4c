use Rattle.std.proofs.Common.{◌≡◌}
use Rattle.world_stores.proofs.Segments.{on_path}
use Rattle.world_stores.proofs.naming.segment_of.Given as goal

abbrev pub invariant-loop-level : goal.invariant-loop-level
invariant-loop-level l = l.at ≡ on_path l.fn.version l.key l.level
