-- Each printed answer has its cause in the notes of the leaders.
use Rattle.std.specs.Prelude.{◌≡◌, ℕ, List, Option, None, Some, map}
use Rattle.ens_base.specs.Lists.{◌∈◌, AreDistinct}
use Rattle.ens_base.specs.declared.epoch.Version.{Version}
use Rattle.ens_base.specs.declared.reply.Reply.{Reply}
use Rattle.register_model.specs.Registers.{outcome, Keeps, Writes, written}
use Rattle.register_model.specs.declared.answer.Answer.{Answer}
use Rattle.register_model.specs.declared.call.Call.{Call}
use Rattle.register_model.specs.declared.note.Note.{Note}
use Rattle.register_model.specs.declared.note.Note.TheVariants.{Proposed, Settled, Read}
use Rattle.register_model.specs.declared.printed.Printed.{Printed}
use Rattle.register_model.specs.declared.register.Register.{Register}
use Rattle.register_model.specs.declared.register.Register.TheVariants.{Absent}
use Rattle.schedule_text.specs.declared.event.ScheduleEvent.{ScheduleEvent}
use Rattle.world_refinement.specs.Lines.{calls_from, answers_in}

-- The register that a version of a key stands for, by the calls and the notes alone: the absent one for no
-- version; for a version that was proposed for a call, what the command of the call writes on the register
-- of its parent, with the version as its stamp; and for one that was proposed for no call, that of its
-- parent.
pub data StandsFor (calls : List Call) (notes : List Note) (key : List ℕ) : Option Version → Register → Type 0 where
  none : StandsFor calls notes key None Absent
  write : (c : Call) (version : Version) (parent : Option Version) (register : Register) (content : Option (List ℕ)) → c ∈ calls → c.key ≡ key → Proposed key version parent (Some c.id) ∈ notes
      → StandsFor calls notes key parent register → outcome c.command register ≡ Writes content → StandsFor calls notes key (Some version) (written version content)
  rewrite : (version : Version) (parent : Option Version) (register : Register) → Proposed key version parent None ∈ notes → StandsFor calls notes key parent register → StandsFor calls notes key (Some version) register

-- the version was proposed for the call, on its key, and was settled; the command of the call writes on
-- the register of its parent
pub record IsWritten (calls : List Call) (notes : List Note) (c : Call) (version : Version) : Type 0 where
  pub parent : Option Version
  pub proposed : Proposed c.key version parent (Some c.id) ∈ notes
  pub settled : Settled c.key version ∈ notes
  pub register : Register
  pub stands : StandsFor calls notes c.key parent register
  pub content : Option (List ℕ)
  pub writes : outcome c.command register ≡ Writes content

-- a read of the call was noted, on its key: its base is a settled version, or none; on the register of
-- the base the command writes nothing and has this reply
pub record IsRead (calls : List Call) (notes : List Note) (c : Call) (reply : Reply) : Type 0 where
  pub base : Option Version
  pub noted : Read c.id c.key base ∈ notes
  pub settled : (version : Version) → base ≡ Some version → Settled c.key version ∈ notes
  pub register : Register
  pub stands : StandsFor calls notes c.key base register
  pub keeps : outcome c.command register ≡ Keeps reply

-- no version was proposed for the call, and no read of it was noted
pub record IsUntouched (notes : List Note) (c : Call) : Type 0 where
  pub not_written : (key : List ℕ) (version : Version) (parent : Option Version) → ¬ (Proposed key version parent (Some c.id) ∈ notes)
  pub not_read : (key : List ℕ) (base : Option Version) → ¬ (Read c.id key base ∈ notes)

-- why the call has this reply; a call that timed out may have been written, or read, or neither
abbrev pub HasCause : List Call → List Note → Call → Reply → Type 0
HasCause calls notes c (Reply.Ok stamp) = IsWritten calls notes c stamp
HasCause calls notes c (Reply.Value stamp bytes) = IsRead calls notes c (Reply.Value stamp bytes)
HasCause calls notes c Reply.NotFound = IsRead calls notes c Reply.NotFound
HasCause calls notes c Reply.Failed = IsRead calls notes c Reply.Failed
HasCause calls notes c Reply.Unavailable = IsUntouched notes c
HasCause calls notes c Reply.Busy = IsUntouched notes c
HasCause calls notes c Reply.Lost = IsUntouched notes c
HasCause calls notes c Reply.Timeout = Unit {0}

-- a line calls with this id
abbrev pub IsCalledIn : List ScheduleEvent → ℕ → Type 0
IsCalledIn events id = (c : Call) × (c ∈ calls_from 1 events) × (c.id ≡ id)

-- Each answer is to a call of the schedule and has its cause, and no call is answered twice. A version is
-- proposed for a call of these lines, and a read is noted of one. So it is of the first lines of a
-- schedule too: both come after the line of the call.
pub record HaveCauses (events : List ScheduleEvent) (lines : List Printed) (notes : List Note) : Type 0 where
  pub caused : (a : Answer) → a ∈ answers_in lines → (c : Call) × (c ∈ calls_from 1 events) × (c.id ≡ a.id) × HasCause (calls_from 1 events) notes c a.reply
  pub once : AreDistinct (map (λ (a : Answer). a.id) (answers_in lines))
  pub proposed : (id : ℕ) (key : List ℕ) (version : Version) (parent : Option Version) → Proposed key version parent (Some id) ∈ notes → IsCalledIn events id
  pub read : (id : ℕ) (key : List ℕ) (base : Option Version) → Read id key base ∈ notes → IsCalledIn events id
