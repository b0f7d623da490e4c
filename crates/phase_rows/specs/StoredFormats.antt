-- What the crates above name of stored_formats, passed on.
pub use Rattle.wire_frames.specs.StoredFormats.{Fact, IsNewer, SavedFact}
