-- What the crates above name of fields, passed on.
pub use Rattle.fields.specs.Entries.{IsEntry}
pub use Rattle.fields.specs.Numbers.{byte_at}
