-- What the crates above name of peer_spec, passed on.
pub use Rattle.peer_spec.specs.Drives.{MayCome, after_put, concluded, followed_up, lead, lead_done, own_key, owned, put_done, row_done, step_of}
unfoldable pub use Rattle.peer_spec.specs.Drives.{driven, most_turns}
pub use Rattle.peer_spec.specs.Kept.{AllMayGo, IsInTree, IsOwn, IsSound, IsStepCall, MaySend, Reaches}
pub use Rattle.peer_spec.specs.Owns.{digested, entered, fetched, found_at, looked_at, read, resealed, stored, written}
pub use Rattle.peer_spec.specs.Starts.{ascends, continued, continued_in, first_state, is_whole, migrated, opened, opening_saved, reseals, reseals_if, resumed, scanned, seals_opening, start_of}
pub use Rattle.peer_spec.specs.Syncs.{and_sends, followed_on}
pub use Rattle.peer_spec.specs.TreeCalls.{Changes, Halts, Walks, end_of, has_position, peer_error, position_plan}
pub use Rattle.peer_spec.specs.Syncs.{body_of}
