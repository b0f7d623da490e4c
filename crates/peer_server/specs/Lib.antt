pub mod Commits
pub mod DiskPeers
pub mod Faults
pub mod Lines
pub mod Rounds
pub mod Serving
pub mod Starting
pub mod Turning
