pub mod Seen
pub mod Follows
pub mod Laws
