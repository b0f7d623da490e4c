pub mod Kept
pub mod Senders
pub mod Statuses
pub mod Swaps
pub mod Tags
