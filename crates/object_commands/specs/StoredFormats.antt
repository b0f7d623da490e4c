-- What the crates above name of stored_formats, passed on.
pub use Rattle.stored_formats.specs.declared.object.Object.{Object}
