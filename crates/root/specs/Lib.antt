pub mod Worlds
pub mod Hashed
pub mod Ends
pub mod Standing
pub mod Slots
pub mod Histories
pub mod Jobs
pub mod ReplayJob
