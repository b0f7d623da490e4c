pub mod Peers
pub mod Orders
pub mod Rows
pub mod StoredFormats
pub mod TreeNode
pub mod WireFrames
