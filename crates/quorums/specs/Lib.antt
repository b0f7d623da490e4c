pub mod Quorums
pub mod Members
pub mod Rounds
