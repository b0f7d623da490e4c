-- What the crates above name of object_commands, passed on.
pub use Rattle.object_commands.specs.Commands.{blind_verdict, register_of, stamp_verdict, verdict_of}
pub use Rattle.object_commands.specs.declared.verdict.Verdict.{Verdict}
pub use Rattle.object_commands.specs.declared.verdict.Verdict.TheVariants.{Answer, Write}
pub use Rattle.object_commands.specs.StoredFormats.{Object}
