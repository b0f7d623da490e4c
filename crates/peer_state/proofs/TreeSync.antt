-- What the crates above name of tree_sync, passed on.
pub use Rattle.tree_sync.proofs.Messages.{resume_go, start_go, take_go}
pub use Rattle.tree_sync.proofs.Others.{asks_are, resumed_are, taken_are}
