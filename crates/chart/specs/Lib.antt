pub mod Notes
pub mod Lines
pub mod Text
pub mod Jobs
