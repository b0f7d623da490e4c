-- What the crates above name of peer_refinement, passed on.
pub use Rattle.peer_refinement.specs.Trees.{AreAmong, AreFree}
pub use Rattle.peer_refinement.specs.Whole.{HasNoFaults, IsWhole}
