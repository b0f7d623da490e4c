-- What the crates above name of tree_exchange, passed on.
pub use Rattle.tree_sync.specs.TreeExchange.{ArePlaces, Question, beyond, given, inner_body, is_beyond, page_of, segment_body}
