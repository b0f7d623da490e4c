-- What the crates above name of wire_frames, passed on.
pub use Rattle.phase_rows.specs.WireFrames.{Message, Obeys, TreeAsk}
