-- What the crates above name of step_refinement, passed on.
pub use Rattle.step_refinement.proofs.DistinctItems.{images_few}
pub use Rattle.step_refinement.proofs.ObjectGrammar.{objects_obey}
pub use Rattle.step_refinement.proofs.PeerRefinement.{below_not_in, distinct_keys}
