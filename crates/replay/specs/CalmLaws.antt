-- What the crates above name of calm_laws, passed on.
pub use Rattle.calm_laws.specs.Calm.{ArePairs, IsUndisturbed, RunsUndisturbed}
pub use Rattle.calm_laws.specs.WorldRefinement.{answers_in, calls_from}
