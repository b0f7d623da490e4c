-- What the crates above name of leader_refinement, passed on.
pub use Rattle.leader_refinement.specs.Seen.{entry_rank, rank}
