-- What the crates above name of tree_node, passed on.
pub use Rattle.tree_node.specs.Entries.{AreAbove}
pub use Rattle.tree_node.specs.Positions.{IsPosition}
pub use Rattle.tree_node.specs.declared.body.Scan.{Scan}
pub use Rattle.tree_node.specs.declared.position.Position.{Position}
pub use Rattle.tree_node.specs.declared.version.TreeVersion.{TreeVersion}
pub use Rattle.tree_node.specs.declared.version.TreeVersion.TheVariants.{Two}
