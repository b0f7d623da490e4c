pub mod Numbers
pub mod Lost
pub mod Pieces
pub mod Torn
pub mod Leftovers
pub mod Twins
pub mod Changed
pub mod ReadBack
