pub mod Endings
pub mod Generated
pub mod Serving
pub mod Recording
pub mod Changing
pub mod Completing
