-- What the crates above name of tree_repair, passed on.
pub use Rattle.peer_spec.specs.TreeRepair.{rebuild_plan, scan_plan}
