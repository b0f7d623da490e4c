pub mod ReplyTests
pub mod Ordered
pub mod Served
pub mod Numbered
pub mod Parts
pub mod Openings
