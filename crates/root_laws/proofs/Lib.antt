pub mod Lines
pub mod Calls
pub mod Sources
pub mod Views
pub mod Histories
pub mod Told
pub mod Prefixes
pub mod Opened
