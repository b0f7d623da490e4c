-- What the crates above name of leader_laws, passed on.
pub use Rattle.leader_laws.proofs.Lookups.{stage_here}
