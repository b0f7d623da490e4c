-- What the crates above name of world_spec, passed on.
pub use Rattle.world_spec.proofs.Calming.{calm_ends}
pub use Rattle.world_spec.proofs.Growth.{calmed_grows, posted_mail, run_grows, ticked_grows}
