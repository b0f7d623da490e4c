-- What the crates above name of world_spec, passed on.
pub use Rattle.world_spec.specs.Held.{Account, HasHashed, HasNoClash, HasTaken, StartsWith, account, added, kept_after, once}
pub use Rattle.world_spec.specs.HeldLaws.{HasClashed, HasFilled, HasFilledAt}
pub use Rattle.world_spec.specs.Lines.{applied, effect, run_from, run_of_schedule}
pub use Rattle.world_spec.specs.Messages.{IsPastMessages, IsWithinMessages}
pub use Rattle.world_spec.specs.Runs.{Run, in_front, opening_run, posted_all, unhashed}
