-- What the crates above name of register_model, passed on.
pub use Rattle.register_model.specs.declared.note.Note.{Note}
