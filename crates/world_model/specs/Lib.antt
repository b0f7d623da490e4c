pub mod MemNodes
pub mod Peers
pub mod Worlds
pub mod Refusals
pub mod Turns
pub mod Activities
pub mod WorldSpec
