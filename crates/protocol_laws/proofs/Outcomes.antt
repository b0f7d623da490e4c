-- The reply of a command that leaves the register unchanged.
use Rattle.std.proofs.Common.{◌≡◌, ℕ, Bool, true, false, List, ◌++◌, ◌+◌, length, Option, None, Some, subst}
use Rattle.std.specs.Prelude.{if◌then◌else◌, nat_le}
use Rattle.ens_base.specs.Epochs.{same_version}
use Rattle.ens_base.specs.Lists.{same_bytes}
use Rattle.ens_base.specs.declared.command.Command.{Command}
use Rattle.ens_base.specs.declared.command.Command.TheVariants.{Get, PutOnce, Update, Append, Add, Swap, Over, Delete}
use Rattle.ens_base.specs.declared.epoch.Version.{Version}
use Rattle.ens_base.specs.declared.reply.Reply.{Reply}
use Rattle.register_model.specs.Registers.{Keeps, Writes, outcome}
use Rattle.register_model.specs.declared.register.Register.{Register}
use Rattle.register_model.specs.declared.register.Register.TheVariants.{Absent, Present}

-- what holds of `failed`, of `notfound` and of each value holds of each reply to a command that writes nothing
module _ (P : Reply → Type 0) (failed : P Reply.Failed) (not_found : P Reply.NotFound) (value : (stamp : Version) (bytes : List ℕ) → P (Reply.Value stamp bytes)) where
  keeps_same : (a r : Reply) → Keeps a ≡ Keeps r → P a → P r
  keeps_same a r e h = subst P (same e) h
    where
      same : Keeps a ≡ Keeps r → a ≡ r
      same e = cc

  writes_not : (c : Option (List ℕ)) (r : Reply) → Writes c ≡ Keeps r → P r
  writes_not c r e = absurd (cc)

  chosen : (b : Bool) (c : Option (List ℕ)) (r : Reply) → (if b then Writes c else Keeps Reply.Failed) ≡ Keeps r → P r
  chosen true c r e = writes_not c r e
  chosen false c r e = keeps_same Reply.Failed r e failed

  pub keeps_then : (c : Command) (x : Register) (r : Reply) → outcome c x ≡ Keeps r → P r
  keeps_then Get Absent r e = keeps_same Reply.NotFound r e not_found
  keeps_then Get (Present stamp bytes) r e = keeps_same (Reply.Value stamp bytes) r e (value stamp bytes)
  keeps_then (PutOnce v) Absent r e = writes_not (Some v) r e
  keeps_then (PutOnce v) (Present stamp bytes) r e = keeps_same Reply.Failed r e failed
  keeps_then (Update w v) Absent r e = keeps_same Reply.Failed r e failed
  keeps_then (Update w v) (Present stamp bytes) r e = chosen (same_version w stamp) (Some v) r e
  keeps_then (Append t) Absent r e = keeps_same Reply.Failed r e failed
  keeps_then (Append t) (Present stamp bytes) r e = chosen (nat_le (length bytes + length t) 1024) (Some (bytes ++ t)) r e
  keeps_then (Add n) Absent r e = keeps_same Reply.Failed r e failed
  keeps_then (Add n) (Present stamp bytes) r e = chosen _ _ r e
  keeps_then (Swap a b) Absent r e = keeps_same Reply.Failed r e failed
  keeps_then (Swap a b) (Present stamp bytes) r e = chosen (same_bytes bytes a) (Some b) r e
  keeps_then (Over v) x r e = writes_not (Some v) r e
  keeps_then Delete x r e = writes_not None r e
