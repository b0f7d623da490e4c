pub mod Commands
pub mod Kept
pub mod StoredFormats
pub mod RegisterModel
pub mod EnsBase
