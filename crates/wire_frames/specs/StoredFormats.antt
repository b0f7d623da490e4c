-- What the crates above name of stored_formats, passed on.
pub use Rattle.stored_formats.specs.declared.object.Object.{Object}
pub use Rattle.stored_formats.specs.Facts.{IsNewer}
pub use Rattle.stored_formats.specs.declared.fact.Fact.{Fact}
pub use Rattle.stored_formats.specs.declared.saved.SavedFact.{SavedFact}
