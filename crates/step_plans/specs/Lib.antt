pub mod Saved
pub mod Calls
pub mod Plans
pub mod Outboxes
pub mod Sends
pub mod Tasks
pub mod Steps
pub mod LeaderOutput
