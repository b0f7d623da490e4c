pub mod Stores
pub mod PeerSpec
pub mod TreeRepair
