pub mod Ranks
pub mod Gathered
pub mod Chains
pub mod Marked
pub mod Keys
pub mod Taken
