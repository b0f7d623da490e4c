-- What the crates above name of world_refinement, passed on.
pub use Rattle.world_refinement.proofs.ScheduleLaws.{schedules_are_legal, schedules_have_causes}
