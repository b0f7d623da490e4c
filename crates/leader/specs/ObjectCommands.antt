-- What the crates above name of object_commands, passed on.
pub use Rattle.object_commands.specs.Kept.{matching}
