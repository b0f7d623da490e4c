-- What the crates above name of tree_node, passed on.
pub use Rattle.tree_node.specs.Entries.{AreAbove, AreEntries, IsNext, is_above, is_less}
pub use Rattle.tree_node.specs.Nodes.{inner_of, inner_spelling, segment_of, segment_spelling}
unfoldable pub use Rattle.tree_node.specs.Nodes.{inner_at}
pub use Rattle.tree_node.specs.Positions.{IsPosition}
pub use Rattle.tree_node.specs.Repeats.{AreListed}
pub use Rattle.tree_node.specs.TreeVersions.{levels}
pub use Rattle.tree_node.specs.declared.error.NodeError.{NodeError}
pub use Rattle.tree_node.specs.declared.error.NodeError.TheVariants.{BadTag}
pub use Rattle.tree_node.specs.declared.node.InnerNode.{InnerNode}
pub use Rattle.tree_node.specs.declared.position.Position.{Position}
pub use Rattle.tree_node.specs.declared.version.TreeVersion.{TreeVersion}
pub use Rattle.tree_node.specs.declared.version.TreeVersion.TheVariants.{One, Two}
