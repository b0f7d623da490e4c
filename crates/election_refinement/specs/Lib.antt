pub mod Refinement
pub mod Worlds
pub mod Listed
pub mod Keeps
