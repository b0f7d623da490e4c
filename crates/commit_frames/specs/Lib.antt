pub mod Digits
pub mod Headers
pub mod Frames
pub mod Records
