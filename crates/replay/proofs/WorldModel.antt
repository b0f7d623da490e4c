-- What the crates above name of world_model, passed on.
pub use Rattle.world_model.proofs.Hashed.{clashed_one, filled_one}
pub use Rattle.world_model.proofs.Reached.{cut_off_after, cut_off_further, errs}
