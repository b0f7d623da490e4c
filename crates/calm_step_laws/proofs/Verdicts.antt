-- A reply that a command gives without a write completes its call.
use Rattle.std.proofs.Common.{◌≡◌, subst, arith, ℕ, Bool, true, false, List, Option}
use Rattle.std.specs.Prelude.{if◌then◌else◌}
use Rattle.ens_base.specs.declared.command.Command.{Command}
use Rattle.ens_base.specs.declared.command.Command.TheVariants.{Get, PutOnce, Update, Append, Add, Swap, Over, Delete}
use Rattle.ens_base.specs.declared.reply.Reply.{Reply}
use Rattle.object_commands.specs.Commands.{verdict_of}
use Rattle.object_commands.specs.declared.verdict.Verdict.TheVariants.{Answer}
use Rattle.register_model.specs.Histories.{IsDone}
use Rattle.register_model.specs.Registers.{Outcome, Keeps, Writes, outcome}
use Rattle.register_model.specs.declared.register.Register.{Register}
use Rattle.register_model.specs.declared.register.Register.TheVariants.{Absent, Present}

-- the reply of this outcome, if it has one, completes a call
abbrev pub Completes : Outcome → Type 0
Completes (Keeps reply) = IsDone reply
Completes (Writes content) = Unit {0}

either : (b : Bool) (content : Option (List ℕ)) → Completes (if b then Writes content else Keeps Reply.Failed)
either true content = tt
either false content = tt

pub outcome_completes : (c : Command) (r : Register) → Completes (outcome c r)
outcome_completes Get Absent = tt
outcome_completes Get (Present stamp bytes) = tt
outcome_completes (PutOnce value) Absent = tt
outcome_completes (PutOnce value) (Present stamp bytes) = tt
outcome_completes (Update wanted value) Absent = tt
outcome_completes (Update wanted value) (Present stamp bytes) = either _ _
outcome_completes (Append tail) Absent = tt
outcome_completes (Append tail) (Present stamp bytes) = either _ _
outcome_completes (Add n) Absent = tt
outcome_completes (Add n) (Present stamp bytes) = either _ _
outcome_completes (Swap old new) Absent = tt
outcome_completes (Swap old new) (Present stamp bytes) = either _ _
outcome_completes (Over value) r = tt
outcome_completes Delete r = tt

same_reply : (a b : Reply) → Answer a ≡ Answer b → a ≡ b
same_reply a b is = grind (arith, is)

pub reply_completes : (c : Command) (r : Register) (reply : Reply) → verdict_of (outcome c r) ≡ Answer reply → IsDone reply
reply_completes c r reply is = by (outcome c r) (outcome_completes c r) is where
  by : (o : Outcome) → Completes o → verdict_of o ≡ Answer reply → IsDone reply
  by (Keeps given) done same = subst IsDone (same_reply given reply same) done
  by (Writes content) done same = absurd (let no : ⊥ = grind (arith, same) in no)
