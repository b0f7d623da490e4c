pub mod Tables
pub mod Segments
pub mod Digests
pub mod Stepping
pub mod Builds
pub mod TreeRepair
