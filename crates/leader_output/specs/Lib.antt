pub mod Outs
pub mod Sends
pub mod ObjectCommands
pub mod PhaseRows
pub mod RegisterModel
pub mod WireFrames
