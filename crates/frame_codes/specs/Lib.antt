pub mod Hmac
pub mod KeyFiles
pub mod Seals
