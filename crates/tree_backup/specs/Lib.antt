pub mod Causes
pub mod Items
pub mod Readings
pub mod Checks
pub mod Hashed
pub mod Order
pub mod Stores
pub mod Runs
