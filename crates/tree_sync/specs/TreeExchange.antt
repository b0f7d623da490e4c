-- What the crates above name of tree_exchange, passed on.
pub use Rattle.tree_exchange.specs.Asked.{ArePlaces}
pub use Rattle.tree_exchange.specs.Gives.{beyond, given, inner_body, is_beyond, page_of, segment_body}
pub use Rattle.tree_exchange.specs.declared.question.Question.{Question}
