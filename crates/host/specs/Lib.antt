pub mod Faults
pub mod Ports
pub mod Rooms
pub mod Ticks
