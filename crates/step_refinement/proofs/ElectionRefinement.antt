-- What the crates above name of election_refinement, passed on.
pub use Rattle.election_refinement.proofs.Keeps.{frames_keep, node_keeps}
pub use Rattle.election_refinement.proofs.Listed.{listed_opening, listed_started}
pub use Rattle.election_refinement.proofs.Openings.{orderly_first, replicated, saved_first}
pub use Rattle.election_refinement.proofs.Worlds.{get_put, posted_all_hold}
