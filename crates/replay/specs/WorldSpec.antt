-- What the crates above name of world_spec, passed on.
pub use Rattle.world_model.specs.WorldSpec.{HasNoClash}
