-- What the crates above name of tree_node, passed on.
pub use Rattle.wire_frames.specs.TreeNode.{AreAbove, IsPosition, Position, Scan, TreeVersion, Two}
