-- What the crates above name of tree_repair, passed on.
pub use Rattle.tree_repair.specs.Rebuilds.{rebuild_plan}
pub use Rattle.tree_repair.specs.Levels.{scan_plan}
