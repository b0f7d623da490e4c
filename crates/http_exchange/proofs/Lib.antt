pub mod Answered
pub mod Contents
pub mod Fronts
pub mod Heads
pub mod Nexts
pub mod Writes
pub mod Sequences
pub mod Streams
