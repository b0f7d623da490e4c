-- What the crates above name of replay, passed on.
pub use Rattle.replay.proofs.Completing.{memory_read, runs_out, usage_read}
pub use Rattle.replay.proofs.Endings.{forward_sound}
pub use Rattle.replay.proofs.Short.{completed}
pub use Rattle.replay.proofs.Texts.{one_text, text_replayed}
