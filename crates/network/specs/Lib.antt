pub mod Mail
pub mod Lines
pub mod Representation
pub mod Indexes
