-- What the crates above name of register_model, passed on.
pub use Rattle.object_commands.specs.RegisterModel.{Note}
