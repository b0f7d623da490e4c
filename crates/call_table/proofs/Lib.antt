pub mod Greatest
pub mod Lookups
pub mod Slots
pub mod Written
