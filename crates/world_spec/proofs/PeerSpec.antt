-- What the crates above name of peer_spec, passed on.
pub use Rattle.peer_stores.proofs.PeerSpec.{IsInside, IsWhole, driven_none, get_inside, insert_inside, most_is_some, one_turn, position_inside, rebuild_whole, scan_whole, stage_here, steps_keep, steps_young, those_at}
