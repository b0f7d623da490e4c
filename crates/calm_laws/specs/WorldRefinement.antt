-- What the crates above name of world_refinement, passed on.
pub use Rattle.world_refinement.specs.Causes.{HaveCauses}
pub use Rattle.world_refinement.specs.Lines.{AreLegal, answers_in, calls_from, lines_of}
