-- What the crates above name of fields, passed on.
pub use Rattle.fields.proofs.NumberLaws.{byte_grammar}
