-- What the crates above name of tree_repair, passed on.
pub use Rattle.peer_stores.specs.TreeRepair.{scan_plan}
