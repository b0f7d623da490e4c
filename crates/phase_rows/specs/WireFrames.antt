-- What the crates above name of wire_frames, passed on.
pub use Rattle.wire_frames.specs.Messages.{Obeys}
pub use Rattle.wire_frames.specs.declared.message.Message.{Message}
pub use Rattle.wire_frames.specs.declared.message.Message.TheVariants.{Beat, Check, Commit, Get, NewEpoch, Prepare, Probe, ProbeReply, Promise, Put, TreeAsk}
pub use Rattle.wire_frames.specs.declared.message.NackCause.{NackCause}
pub use Rattle.wire_frames.specs.declared.message.NackCause.TheVariants.{Damaged, Greater, Untrusted}
pub use Rattle.wire_frames.specs.declared.frame.Frame.{Frame}
