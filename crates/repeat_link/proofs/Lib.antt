pub mod Deliveries
pub mod Going
pub mod Pieces
pub mod SentLists
pub mod Waiting
pub mod Windows
