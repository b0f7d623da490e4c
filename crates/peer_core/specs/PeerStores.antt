-- What the crates above name of peer_stores, passed on.
pub use Rattle.peer_stores.specs.Stores.{stores_do, stores_refuse}
pub use Rattle.peer_stores.specs.declared.stores.Stores.{Stores}
