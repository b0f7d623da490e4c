pub mod Objects
pub mod Facts
pub mod FactBytes
pub mod SavedBytes
