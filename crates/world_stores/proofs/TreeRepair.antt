-- What the crates above name of tree_repair, passed on.
pub use Rattle.tree_repair.proofs.Indexes.{filter_agree}
