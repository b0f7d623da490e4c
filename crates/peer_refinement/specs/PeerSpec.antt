-- What the crates above name of peer_spec, passed on.
pub use Rattle.world_spec.specs.PeerSpec.{IsStepCall, MayCome, Reaches, after_put, and_sends, ascends, concluded, continued, continued_in, digested, entered, fetched, first_state, followed_on, followed_up, found_at, is_whole, lead, lead_done, looked_at, migrated, opened, opening_saved, own_key, owned, position_plan, put_done, read, resealed, reseals, reseals_if, resumed, row_done, scanned, seals_opening, start_of, step_of, stored, written}
unfoldable pub use Rattle.world_spec.specs.PeerSpec.{driven, most_turns}
