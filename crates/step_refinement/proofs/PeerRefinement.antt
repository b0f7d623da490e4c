-- What the crates above name of peer_refinement, passed on.
pub use Rattle.peer_refinement.proofs.Ends.{below_not_in, distinct_keys}
pub use Rattle.peer_refinement.proofs.Gives.{may_return}
pub use Rattle.peer_refinement.proofs.SyncStaying.{stays}
pub use Rattle.peer_refinement.proofs.Lookups.{in_put, lookup_in, lookup_put}
