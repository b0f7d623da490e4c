pub mod Results
pub mod Numerals
pub mod Ascending
pub mod Hexadecimal
pub mod Joined
pub mod Dotted
pub mod Fields
