-- What the crates above name of peer_spec, passed on.
pub use Rattle.peer_spec.specs.Drives.{MayCome, step_of}
pub use Rattle.peer_spec.specs.Kept.{AllMayGo, MaySend}
