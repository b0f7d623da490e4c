pub mod Cases
pub mod Ticking
