pub mod Calls
pub mod Queues
pub mod Rows
pub mod Slots
pub mod Late
pub mod Tables
pub mod Best
