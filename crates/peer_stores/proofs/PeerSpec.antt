-- What the crates above name of peer_spec, passed on.
pub use Rattle.peer_spec.proofs.Aging.{most_is_some, steps_young}
pub use Rattle.peer_spec.proofs.Grammar.{those_at}
pub use Rattle.peer_spec.proofs.Inside.{IsInside, get_inside, insert_inside, position_inside}
pub use Rattle.peer_spec.proofs.Parts.{driven_none, one_turn}
pub use Rattle.peer_spec.proofs.Passing.{steps_keep}
pub use Rattle.peer_spec.proofs.Whole.{IsWhole, rebuild_whole, scan_whole}
pub use Rattle.peer_spec.proofs.LeaderLaws.{stage_here}
