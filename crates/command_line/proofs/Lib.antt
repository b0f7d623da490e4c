pub mod Exactly
pub mod Plain
pub mod Walk
