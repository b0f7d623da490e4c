-- What the calls of a step do over a whole tree, passed on.
pub use Rattle.peer_refinement.proofs.Keeping.{grows as hash, spares}
pub use Rattle.peer_refinement.proofs.Whole.{serves, finds, enters, keeps, makes}
