pub mod Slots
pub mod Lines
pub mod Worlds
pub mod Openings
pub mod Runs
pub mod Text
pub mod Steps
pub mod Legal
