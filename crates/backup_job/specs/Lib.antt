pub mod Printed
pub mod Disks
pub mod Backed
pub mod Restored
