pub mod Messages
pub mod Recordings
pub mod Endings
pub mod Ends
pub mod Recorders
pub mod Sending
pub mod Replay
