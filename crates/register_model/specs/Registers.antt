-- The register of one key: the effect of each command on it, and the reply.
use Rattle.std.specs.Prelude.{◌≡◌, ℕ, Bool, ◌+◌, ◌^◌, ◌==◌, ◌&&◌, nat_lt, nat_le, if◌then◌else◌, List, ◌∷◌, ◌++◌, length, Option, None, Some}
use Rattle.byteorder.specs.Endian.{big_number, big_bytes}
use Rattle.ens_base.specs.Lists.{same_bytes, ◌∈◌}
use Rattle.ens_base.specs.Epochs.{same_version}
use Rattle.ens_base.specs.declared.epoch.Version.{Version}
use Rattle.ens_base.specs.declared.command.Command.{Command}
use Rattle.ens_base.specs.declared.command.Command.TheVariants.{Get, PutOnce, Update, Append, Add, Swap, Over, Delete}
use Rattle.ens_base.specs.declared.reply.Reply.{Reply}
use Rattle.register_model.specs.declared.register.Register.{Register}
use Rattle.register_model.specs.declared.register.Register.TheVariants.{Absent, Present}

-- the outcome of a command: it leaves the register unchanged and has this reply, or it writes this
-- content, none for a deletion
pub data Outcome : Type 0 where
  Keeps : (reply : Reply) → Outcome
  Writes : (content : Option (List ℕ)) → Outcome

-- the bytes are a big-endian number of 64 bits, and adding n does not overflow
abbrev can_add : List ℕ → ℕ → Bool
can_add bytes n = length bytes == 8 && nat_lt (big_number 8 bytes + n) (2 ^ 64)

-- the outcome of each command on each register
abbrev pub outcome : Command → Register → Outcome
outcome Get Absent = Keeps Reply.NotFound
outcome Get (Present stamp bytes) = Keeps (Reply.Value stamp bytes)
outcome (PutOnce value) Absent = Writes (Some value)
outcome (PutOnce value) (Present stamp bytes) = Keeps Reply.Failed
outcome (Update wanted value) Absent = Keeps Reply.Failed
outcome (Update wanted value) (Present stamp bytes) = if same_version wanted stamp then Writes (Some value) else Keeps Reply.Failed
outcome (Append tail) Absent = Keeps Reply.Failed
outcome (Append tail) (Present stamp bytes) = if nat_le (length bytes + length tail) 1024 then Writes (Some (bytes ++ tail)) else Keeps Reply.Failed
outcome (Add n) Absent = Keeps Reply.Failed
outcome (Add n) (Present stamp bytes) = if can_add bytes n then Writes (Some (big_bytes 8 (big_number 8 bytes + n))) else Keeps Reply.Failed
outcome (Swap old new) Absent = Keeps Reply.Failed
outcome (Swap old new) (Present stamp bytes) = if same_bytes bytes old then Writes (Some new) else Keeps Reply.Failed
outcome (Over value) register = Writes (Some value)
outcome Delete register = Writes None

-- the register after a write under this stamp
abbrev pub written : Version → Option (List ℕ) → Register
written stamp None = Absent
written stamp (Some bytes) = Present stamp bytes

-- a step with this outcome takes the register from old to new with this reply; a write has a stamp
-- that no earlier step had
abbrev pub Comes : List Version → Register → Outcome → Reply → Register → Type 0
Comes stamps old (Keeps answer) reply new = (reply ≡ answer) × (new ≡ old)
Comes stamps old (Writes content) reply new = (stamp : Version) × (reply ≡ Reply.Ok stamp) × ¬ (stamp ∈ stamps) × (new ≡ written stamp content)

-- one step of the register, after steps with these stamps
abbrev pub Steps : List Version → Register → Command → Reply → Register → Type 0
Steps stamps old command reply new = Comes stamps old (outcome command old) reply new

-- the stamps after a step with this reply
abbrev pub stamps_after : Reply → List Version → List Version
stamps_after (Reply.Ok stamp) stamps = stamp ∷ stamps
stamps_after reply stamps = stamps
