pub mod Shown
pub mod Weakened
pub mod Guarded
