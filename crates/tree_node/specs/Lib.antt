pub mod Repeats
pub mod TreeVersions
pub mod Positions
pub mod Entries
pub mod Nodes
pub mod FirstFaults
