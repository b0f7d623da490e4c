-- What the crates above name of ens_base, passed on.
pub use Rattle.ens_base.specs.PeerSet.{holds}
pub use Rattle.ens_base.specs.declared.reply.Reply.{Reply}
