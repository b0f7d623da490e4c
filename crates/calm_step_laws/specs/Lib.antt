pub mod WorldSpec
pub mod PeerRefinement
