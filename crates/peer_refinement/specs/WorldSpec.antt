-- What the crates above name of world_spec, passed on.
pub use Rattle.world_spec.specs.Answers.{Answered, answered, by_walk, done, entered, facts_failed, looked, objects_failed, root_after, root_kept, root_read, version_opened, walked, whole, with_backend, with_facts}
pub use Rattle.world_spec.specs.Held.{HasNoClash, Held, HeldStores, and_hashed, empty_stores, unless_failing}
pub use Rattle.world_spec.specs.HeldLaws.{held_with}
pub use Rattle.world_spec.specs.HeldRuns.{Ended, either, run}
pub use Rattle.world_spec.specs.Walks.{Broke, Came, End, Failed, Walk, nodes_failed}
unfoldable pub use Rattle.world_spec.specs.Walks.{walk}
pub use Rattle.world_spec.specs.PeerSpec.{position_plan, step_of}
