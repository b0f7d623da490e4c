pub mod Ends
pub mod Turns
pub mod Deeds
pub mod Going
pub mod Sending
pub mod PeerSpec
