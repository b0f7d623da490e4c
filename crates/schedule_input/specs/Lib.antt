pub mod LineReading
pub mod Counting
pub mod Premise
pub mod Sound
pub mod Text
pub mod Reading
pub mod Endings
