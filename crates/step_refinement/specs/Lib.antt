pub mod Roles
pub mod Peers
pub mod Keys
pub mod Scenes
pub mod Steps
pub mod ElectionRefinement
pub mod LeaderRefinement
pub mod PeerRefinement
