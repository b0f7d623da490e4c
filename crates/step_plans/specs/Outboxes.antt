-- An outbox.
use Rattle.std.specs.Prelude.{◌≡◌, ◌≤◌, ℕ, ◌-◌, List, [], Bool, Option, Some, None, length, take, vec_capacity, vec_len}
use Rattle.ens_base.specs.View.{IsPeer}
use Rattle.phase_rows.specs.Peers.{alone}
use Rattle.step_plans.specs.Plans.{Out}
use Rattle.step_plans.specs.declared.outbox.Mark.{Mark}
use Rattle.step_plans.specs.declared.outbox.Outbox.{Outbox}
use Rattle.phase_rows.specs.WireFrames.{Message}

-- the contents of an outbox, without the notes
abbrev pub out_of : Outbox → Out
out_of o = record { sends = o.sends.items; answers = o.answers.items; changes = o.changes.items }

-- the outbox contains nothing but notes
pub record HasNotesAlone (o : Outbox) : Type 0 where
  pub sends : o.sends.items ≡ []
  pub answers : o.answers.items ≡ []
  pub changes : o.changes.items ≡ []

-- the number of messages that fit into the outbox before it allocates
abbrev pub spare : Outbox → ℕ
spare o = vec_capacity o.sends - vec_len o.sends

-- the same number, including the messages that are in it
abbrev pub room : Outbox → ℕ
room o = vec_capacity o.sends

-- the lists begin as they did, except the notes, and the room for messages did not shrink
pub record Grows (o p : Outbox) : Type 0 where
  pub sends : take (length o.sends.items) p.sends.items ≡ o.sends.items
  pub answers : take (length o.answers.items) p.answers.items ≡ o.answers.items
  pub changes : take (length o.changes.items) p.changes.items ≡ o.changes.items
  pub capacity : room o ≤ room p

-- the mark has the lengths of the lists, except the notes
pub record IsMark (m : Mark) (o : Outbox) : Type 0 where
  pub sends : m.sends ≡ length o.sends.items
  pub answers : m.answers ≡ length o.answers.items
  pub changes : m.changes ≡ length o.changes.items

-- nothing is sent, or there is one receiver and the outbox has room for its message
abbrev pub FitsIn : Outbox → List Bool → Option Message → Type 0
FitsIn o set None = Unit {0}
FitsIn o set (Some message) = (1 ≤ spare o) × ((peer : ℕ) × IsPeer peer × (set ≡ alone peer))
