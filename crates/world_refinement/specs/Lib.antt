pub mod Roles
pub mod Worlds
pub mod Lines
pub mod Causes
pub mod StepRefinement
pub mod PeerRefinement
pub mod WorldSpec
