-- What the crates above name of tree_repair, passed on.
pub use Rattle.tree_repair.specs.Builds.{build_nodes, build_of, stored}
pub use Rattle.tree_repair.specs.Rebuilds.{hash_all, rebuild_plan}
