-- What the crates above name of step_refinement, passed on.
pub use Rattle.step_refinement.specs.Peers.{AsksFit, EpochsFit}
