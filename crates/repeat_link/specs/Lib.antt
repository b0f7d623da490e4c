pub mod Channels
pub mod Headers
pub mod Parts
pub mod Queues
pub mod Received
pub mod RoundTrips
pub mod Runs
pub mod Sendings
