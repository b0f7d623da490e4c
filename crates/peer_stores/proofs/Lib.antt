mod TreeCounts
pub mod SameStores
pub mod PeerSpec
