pub mod Loops
pub mod Stands
pub mod Calls
