-- What the crates above name of replay, passed on.
pub use Rattle.replay.specs.Jobs.{IsRunnable, Prints, hashed_by}
pub use Rattle.replay.specs.Text.{IsTextOfRun, record_text}
pub use Rattle.replay.specs.Worlds.{schedule_run}
