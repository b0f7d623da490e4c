use Rattle.std.proofs.Common.{◌-◌}
use Rattle.tree_node.specs.TreeVersions.{levels}
use Rattle.tree_repair.proofs.building.+build_level.Given as goal

abbrev pub decreases-build_level : goal.decreases-build_level
decreases-build_level g l = levels l.version - l.level
