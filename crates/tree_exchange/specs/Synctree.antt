-- What the crates above name of synctree, passed on.
pub use Rattle.synctree.specs.Forms.{root}
unfoldable pub use Rattle.synctree.specs.Sixteen.{children_of}
