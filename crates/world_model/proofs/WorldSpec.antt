-- What the crates above name of world_spec, passed on.
pub use Rattle.world_spec.proofs.Taken.{are_apart, hashed_all}
pub use Rattle.world_spec.proofs.Books.{filled_beyond, kept_once}
pub use Rattle.world_spec.proofs.Calming.{run_to_last}
pub use Rattle.world_spec.proofs.Prefixes.{applied_prefix}
pub use Rattle.world_spec.proofs.Growth.{IsFurther, applied_same, counted_grows, further_later, peers_in, run_grows}
