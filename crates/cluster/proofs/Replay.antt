-- What the crates above name of replay, passed on.
pub use Rattle.replay.proofs.Endings.{firm_lines}
pub use Rattle.replay.proofs.Members.{Contains_from_in, in_from_Contains}
pub use Rattle.replay.proofs.Texts.{one_text}
