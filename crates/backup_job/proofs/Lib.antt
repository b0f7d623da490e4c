pub mod Completing
pub mod Holding
pub mod Outlasting
pub mod Reading
pub mod Remaining
pub mod Rewriting
pub mod Shaping
pub mod Transporting
