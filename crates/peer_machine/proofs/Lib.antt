pub mod Starts
pub mod Concluding
