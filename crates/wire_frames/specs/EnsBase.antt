-- What the crates above name of ens_base, passed on.
pub use Rattle.ens_base.specs.Epochs.{IsEpochBelow}
pub use Rattle.ens_base.specs.Lists.{is_in}
pub use Rattle.ens_base.specs.PeerSet.{holds}
pub use Rattle.ens_base.specs.View.{IsPeer}
pub use Rattle.ens_base.specs.Views.{first_view}
pub use Rattle.ens_base.specs.declared.epoch.Epoch.{Epoch}
