pub mod PeerStores
