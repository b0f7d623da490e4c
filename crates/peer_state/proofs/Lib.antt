pub mod Phases
pub mod YoungRows
pub mod Names
pub mod Young
pub mod Quiet
pub mod TreeSync
