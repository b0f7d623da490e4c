pub mod Arguments
pub mod Peers
pub mod Top
