pub mod Drawing
pub mod Generated
pub mod Growing
