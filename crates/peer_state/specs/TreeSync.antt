-- What the crates above name of tree_sync, passed on.
pub use Rattle.tree_sync.specs.Rows.{needs_own_node, row_resume, row_start, row_take}
pub use Rattle.tree_sync.specs.Running.{Running}
pub use Rattle.tree_sync.specs.Sends.{AsksOthers}
pub use Rattle.tree_sync.specs.declared.asking.Give.{Give}
pub use Rattle.tree_sync.specs.Syncs.{is_clean, needs_build, outcome_of}
pub use Rattle.tree_sync.specs.declared.sync.Outcome.{Outcome}
pub use Rattle.tree_sync.specs.declared.sync.Outcome.TheVariants.{Pending, Trusted}
