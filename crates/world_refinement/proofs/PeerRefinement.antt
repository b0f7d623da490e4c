-- What the crates above name of peer_refinement, passed on.
pub use Rattle.step_refinement.proofs.PeerRefinement.{in_put, lookup_in, lookup_put}
