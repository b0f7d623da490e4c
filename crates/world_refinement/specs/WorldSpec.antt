-- What the crates above name of world_spec, passed on.
pub use Rattle.world_spec.specs.Lines.{applied, call_of, client, counted, run_from, run_of_schedule}
pub use Rattle.world_spec.specs.Messages.{IsWithinMessages}
pub use Rattle.world_spec.specs.Nodes.{Node, Up, opening_node, opening_strings, run_over, taken, taken_by}
pub use Rattle.world_spec.specs.Runs.{Run, delivered, frame_from, going_on, next_event, opening_mode, opening_run, place_of, posted_all, printed_by, received, received_if, repeated, stepped, stepped_at, tree_first, with_taken, without_waiting}
unfoldable pub use Rattle.world_spec.specs.Runs.{calmed, ticked}
