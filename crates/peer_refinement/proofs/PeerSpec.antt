-- What the crates above name of peer_spec, passed on.
pub use Rattle.world_spec.proofs.PeerSpec.{driven_none, most_is_some, stage_here, steps_young, those_at}
