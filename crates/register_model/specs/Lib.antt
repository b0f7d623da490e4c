pub mod Registers
pub mod Histories
pub mod Orders
pub mod Served
pub mod Parts
pub mod Openings
