-- What the crates above name of world_model, passed on.
pub use Rattle.world_model.specs.Peers.{node_of}
pub use Rattle.world_model.specs.Refusals.{IsCutOff}
pub use Rattle.world_model.specs.Worlds.{MayRefuse, Reaches, run_of}
pub use Rattle.world_model.specs.declared.error.WorldError.{WorldError}
pub use Rattle.world_model.specs.declared.error.WorldError.TheVariants.{BookFull, Clash, Memory, MessageLimit}
pub use Rattle.world_model.specs.declared.world.World.{World}
