-- What the crates above name of peer_spec, passed on.
pub use Rattle.peer_refinement.proofs.PeerSpec.{those_at}
