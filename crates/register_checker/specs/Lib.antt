pub mod Stamps
pub mod Guesses
pub mod Meanings
pub mod Places
pub mod Walks
pub mod Prefixes
