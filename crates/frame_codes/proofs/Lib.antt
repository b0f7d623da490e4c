pub mod Digits
pub mod KeyLines
pub mod Names
pub mod Opening
