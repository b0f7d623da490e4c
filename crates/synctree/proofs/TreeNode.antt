-- What the crates above name of tree_node, passed on.
pub use Rattle.tree_node.proofs.TreeVersionLaws.{levels_few, position_deepest}
pub use Rattle.tree_node.proofs.Above.{key_above, less_above}
