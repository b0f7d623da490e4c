use Rattle.std.proofs.Common.{◌≡◌}
use Rattle.synctree.specs.Sixteen.{form_of}
use Rattle.tree_repair.specs.Builds.{place}
use Rattle.tree_repair.specs.RepairLevels.{index_of}
use Rattle.tree_repair.proofs.paths.segment_of.Given as goal

abbrev pub invariant-loop-level : goal.invariant-loop-level
invariant-loop-level l = l.at ≡ place l.level (index_of (form_of l.fn.version) l.level l.key)
