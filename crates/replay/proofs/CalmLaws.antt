-- What the crates above name of calm_laws, passed on.
pub use Rattle.calm_laws.proofs.Schedules.{calls_complete}
