pub mod Calm
pub mod WorldRefinement
