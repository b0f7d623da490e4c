pub mod Sending
pub mod Parts
pub mod Growing
pub mod Alone
pub mod Framed
