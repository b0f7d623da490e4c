pub mod Asked
pub mod Gives
pub mod Asks
pub mod Covers
pub mod Causes
pub mod Synctree
