pub mod Causes
pub mod Spelling
pub mod Words
