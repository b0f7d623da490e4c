-- Which answer of the root opens a slot, and with which view.
use Rattle.std.specs.Prelude.{ℕ, ◌==◌, if◌then◌else◌, List, [], ◌∷◌, find, Option, Some, None}
use Rattle.ens_base.specs.declared.reply.Reply.{Reply}
use Rattle.register_model.specs.declared.answer.Answer.{Answer}
use Rattle.scripts.specs.Progress.{has_id}
use Rattle.scripts.specs.declared.event.RootEvent.{RootEvent}
use Rattle.scripts.specs.declared.event.RootEvent.TheVariants.{Open, Look}
use Rattle.root_laws.specs.Slots.{view_of_bytes}

-- a slot is open from the event of this number on, with this view
pub record Opening : Type 0 where
  pub event : ℕ
  pub view : List ℕ

-- a slot, and the view with which it is open, if there is one
abbrev pub of_slot : ℕ → Option (List ℕ) → Option (ℕ × List ℕ)
of_slot slot None = None
of_slot slot (Some view) = Some (slot, view)

-- the slot that is open, as the reply to an event says, and the view with which it is: `ok` to an opening of
-- it, or a value to a look at it
abbrev pub told : RootEvent → Reply → Option (ℕ × List ℕ)
told (Open peer id slot view) (Reply.Ok stamp) = Some (slot, view)
told (Look peer id slot) (Reply.Value stamp bytes) = of_slot slot (view_of_bytes bytes)
told _ _ = None

-- the same of the reply to the call with an id, if the script has one
abbrev pub told_to : Option RootEvent → Reply → Option (ℕ × List ℕ)
told_to None reply = None
told_to (Some event) reply = told event reply

abbrev pub told_by : List RootEvent → Answer → Option (ℕ × List ℕ)
told_by events a = told_to (find (has_id a.id) events) a.reply

-- the view, if it is that of this slot
abbrev pub view_at : ℕ → Option (ℕ × List ℕ) → Option (List ℕ)
view_at slot None = None
view_at slot (Some (s, view)) = if s == slot then Some view else None

abbrev pub view_in : List RootEvent → ℕ → Answer → Option (List ℕ)
view_in events slot a = view_at slot (told_by events a)

-- the first that there is
abbrev pub or_later : ℕ → Option (List ℕ) → Option Opening → Option Opening
or_later event (Some view) later = Some (record { event = event; view = view })
or_later event None later = later

-- a slot is opened by the first answer that says with which view it is open
abbrev pub opening_in : List RootEvent → ℕ → List Answer → Option Opening
opening_in events slot [] = None
opening_in events slot (a ∷ more) = or_later a.event (view_in events slot a) (opening_in events slot more)
