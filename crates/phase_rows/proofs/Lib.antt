pub mod Filled
pub mod Epochs
