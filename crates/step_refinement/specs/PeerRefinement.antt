-- What the crates above name of peer_refinement, passed on.
pub use Rattle.peer_refinement.specs.SyncLaws.{FirmAreKept, ShownMayReturn}
pub use Rattle.peer_refinement.specs.Seen.{ranks}
pub use Rattle.peer_refinement.specs.Syncs.{MayReturn}
pub use Rattle.peer_refinement.specs.Naming.{EntrySays, hash_of}
