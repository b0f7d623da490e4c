-- Keys that are opened once and looked at, and what their answers tell.
use Rattle.std.specs.Prelude.{◌≡◌, ℕ, List, Option, Some, None}
use Rattle.ens_base.specs.Lists.{◌∈◌}
use Rattle.ens_base.specs.declared.command.Command.{Command}
use Rattle.ens_base.specs.declared.command.Command.TheVariants.{Get, PutOnce}
use Rattle.ens_base.specs.declared.reply.Reply.{Reply}
use Rattle.register_model.specs.declared.answer.Answer.{Answer}
use Rattle.register_model.specs.declared.call.Call.{Call}

-- a command that opens a key with a value, unless it has one, or that looks at it
abbrev pub IsOpening : Command → Type 0
IsOpening Get = Unit {0}
IsOpening (PutOnce value) = Unit {0}
IsOpening _ = ⊥

-- the calls on the key have such commands alone
abbrev pub AreOpenings : List Call → List ℕ → Type 0
AreOpenings calls key = (c : Call) → c ∈ calls → c.key ≡ key → IsOpening c.command

-- the value that an answer says the key has: an `ok` the one that it was opened with, a look the one found
abbrev pub told : Command → Reply → Option (List ℕ)
told (PutOnce value) (Reply.Ok stamp) = Some value
told Get (Reply.Value stamp bytes) = Some bytes
told _ _ = None

-- all answers to calls on the key tell one value
abbrev pub HaveOneValue : List Call → List Answer → List ℕ → Type 0
HaveOneValue calls answers key =
    (value : List ℕ) × ((c : Call) (a : Answer) (bytes : List ℕ) → c ∈ calls → a ∈ answers → a.id ≡ c.id → c.key ≡ key → told c.command a.reply ≡ Some bytes → bytes ≡ value)
