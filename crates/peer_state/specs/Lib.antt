pub mod Moves
pub mod Ages
pub mod Rows
pub mod Leading
pub mod NoAllocation
pub mod PhaseRules
pub mod TreeExchange
pub mod TreeSync
