-- What the crates above name of replay, passed on.
pub use Rattle.replay.specs.Completed.{CompletesAll}
pub use Rattle.replay.specs.Jobs.{EndsInRun, HasRead, IsRunnable, Prints, PrintsWith, RanOut, hashed_by, nothing_hashed}
pub use Rattle.replay.specs.Summary.{EndsInSummary, StaysWithin}
unfoldable pub use Rattle.replay.specs.Summary.{summary_text}
pub use Rattle.replay.specs.Worlds.{schedule_run}
