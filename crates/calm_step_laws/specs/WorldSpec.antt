-- What the crates above name of world_spec, passed on.
pub use Rattle.peer_refinement.specs.WorldSpec.{Answered, Ended, Failed, HasNoClash, Held, HeldStores, Walk, answered, by_walk, done, either, empty_stores, entered, facts_failed, held_with, looked, nodes_failed, objects_failed, position_plan, root_after, root_kept, root_read, run, step_of, unless_failing, whole, with_backend, with_facts}
unfoldable pub use Rattle.peer_refinement.specs.WorldSpec.{walk}
