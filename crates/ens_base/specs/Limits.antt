-- Which values keep the limits of their types.
use Rattle.std.specs.Prelude.{ℕ, ◌<◌, ◌^◌, List, length, get_or}
use Rattle.ens_base.specs.Lengths.{IsKeyLength, IsValueLength}
use Rattle.ens_base.specs.declared.epoch.Epoch.{Epoch}
use Rattle.ens_base.specs.declared.epoch.Version.{Version}
use Rattle.ens_base.specs.declared.command.Command.{Command}
use Rattle.ens_base.specs.declared.command.Command.TheVariants.{Get, PutOnce, Update, Append, Add, Swap, Over, Delete}

-- each number is a byte
abbrev pub IsBytes : List ℕ → Type 0
IsBytes bytes = (i : ℕ) → get_or bytes i 0 < 256

-- 1 to 64 bytes
pub record IsKey (key : List ℕ) : Type 0 where
  pub size : IsKeyLength (length key)
  pub bytes : IsBytes key

-- 0 to 1,024 bytes
pub record IsValue (value : List ℕ) : Type 0 where
  pub size : IsValueLength (length value)
  pub bytes : IsBytes value

-- each number of the epoch fits its width
pub record IsEpoch (e : Epoch) : Type 0 where
  pub count : e.count < 2 ^ 64
  pub proposer : e.proposer < 2 ^ 32

-- each number of the version fits its width
pub record IsVersion (v : Version) : Type 0 where
  pub epoch : IsEpoch v.epoch
  pub seq : v.seq < 2 ^ 64

-- the arguments of the command keep their limits
abbrev pub IsCommand : Command → Type 0
IsCommand Get = Unit {0}
IsCommand (PutOnce value) = IsValue value
IsCommand (Update stamp value) = IsVersion stamp × IsValue value
IsCommand (Append value) = IsValue value
IsCommand (Add number) = number < 2 ^ 64
IsCommand (Swap old new) = IsValue old × IsValue new
IsCommand (Over value) = IsValue value
IsCommand Delete = Unit {0}
