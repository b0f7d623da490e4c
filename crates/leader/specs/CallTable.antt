-- What the crates above name of call_table, passed on.
pub use Rattle.call_table.specs.Calls.{has_calls}
unfoldable pub use Rattle.call_table.specs.Tables.{late_put}
pub use Rattle.call_table.specs.declared.waiting.Waiting.{Waiting}
