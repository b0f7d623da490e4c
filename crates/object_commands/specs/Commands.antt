-- The outcome of a command on an object.
use Rattle.std.specs.Prelude.{Option, Some, None, if◌then◌else◌}
use Rattle.ens_base.specs.Epochs.{same_version}
use Rattle.ens_base.specs.declared.epoch.Version.{Version}
use Rattle.ens_base.specs.declared.command.Command.{Command}
use Rattle.ens_base.specs.declared.command.Command.TheVariants.{Get, PutOnce, Update, Append, Add, Swap, Over, Delete}
use Rattle.ens_base.specs.declared.reply.Reply.{Reply}
use Rattle.stored_formats.specs.declared.object.Object.{Object}
use Rattle.register_model.specs.Registers.{Outcome, Keeps, Writes, written}
use Rattle.register_model.specs.declared.register.Register.{Register}
use Rattle.object_commands.specs.declared.verdict.Verdict.{Verdict}
use Rattle.object_commands.specs.declared.verdict.Verdict.TheVariants.{Answer, Write}

-- the register that an object holds; a tombstone is an absent register
abbrev pub register_of : Object → Register
register_of o = written o.stamp o.value

-- the verdict of an outcome: a reply, or a write
abbrev pub verdict_of : Outcome → Verdict
verdict_of (Keeps reply) = Answer reply
verdict_of (Writes content) = Write content

-- the verdict on a present register of which only the stamp is known; none if it depends on the value
abbrev pub stamp_verdict : Command → Version → Option Verdict
stamp_verdict (PutOnce value) stamp = Some (Answer Reply.Failed)
stamp_verdict (Update wanted value) stamp = Some (if same_version wanted stamp then Write (Some value) else Answer Reply.Failed)
stamp_verdict (Over value) stamp = Some (Write (Some value))
stamp_verdict Delete stamp = Some (Write None)
stamp_verdict Get stamp = None
stamp_verdict (Append tail) stamp = None
stamp_verdict (Add number) stamp = None
stamp_verdict (Swap old new) stamp = None

-- the verdict on a register of which nothing is known; none if it depends on the register
abbrev pub blind_verdict : Command → Option Verdict
blind_verdict (Over value) = Some (Write (Some value))
blind_verdict Delete = Some (Write None)
blind_verdict other = None
