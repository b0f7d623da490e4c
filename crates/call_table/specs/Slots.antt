-- How the unanswered calls are kept: in slots in order of arrival, with the places of the slots of
-- each key. The slot of a call that was answered is empty.
use Rattle.std.specs.Prelude.{◌≡◌, ℕ, ◌+◌, ◌&&◌, Bool, true, false, if◌then◌else◌, length, Option, Some, None, List, [], ◌∷◌}
use Rattle.std.specs.BTreeMap.{get}
use Rattle.ens_base.specs.Lists.{same_bytes, bytes_cmp}
use Rattle.call_table.specs.Calls.{is_due}
use Rattle.call_table.specs.Queues.{list_or_empty, first_of, first_is}
use Rattle.call_table.specs.Rows.{Rows, row_at, has_put}
use Rattle.call_table.specs.declared.places.Places.{Places}
use Rattle.call_table.specs.declared.waiting.DueCall.{DueCall}
use Rattle.call_table.specs.declared.waiting.Waiting.{Waiting}

-- the calls in the slots
abbrev pub present : List (Option Waiting) → List Waiting
present [] = []
present (None ∷ slots) = present slots
present (Some w ∷ slots) = w ∷ present slots

-- the places of the calls on the key, the first slot being at this place
abbrev pub places_on : List ℕ → ℕ → List (Option Waiting) → List ℕ
places_on key at [] = []
places_on key at (None ∷ slots) = places_on key (at + 1) slots
places_on key at (Some w ∷ slots) = if same_bytes w.key key then at ∷ places_on key (at + 1) slots else places_on key (at + 1) slots

-- the places that are kept for the key
abbrev pub places_at : Places → List ℕ → List ℕ
places_at p key = list_or_empty (get bytes_cmp p.queues key)

-- the slot, emptied if its call is due
abbrev pub unless_due : Option Waiting → Option Waiting
unless_due None = None
unless_due (Some w) = if is_due w then None else Some w

-- whether this place is the first place of the key
abbrev pub is_first : Places → List ℕ → ℕ → Bool
is_first p key place = first_is place (first_of (places_at p key))

abbrev pub key_if : Bool → List ℕ → Option (List ℕ)
key_if true key = Some key
key_if false key = None

-- the call of the slot at this place, if it is due
abbrev pub due_at : Places → ℕ → Option Waiting → List DueCall
due_at p place None = []
due_at p place (Some w) = if is_due w then record { from = w.from; id = w.id; running = key_if (is_first p w.key place) w.key } ∷ [] else []

-- whether the call of the slot at this place is a running call that is due and has a put that is not
-- settled
abbrev pub late_at : Rows → Places → ℕ → Option Waiting → Bool
late_at rows p place None = false
late_at rows p place (Some w) = is_due w && (is_first p w.key place && has_put (row_at w.key rows).stage)

-- the places are those of the slots
abbrev pub AreOf : List (Option Waiting) → Places → Type 0
AreOf slots p = (key : List ℕ) → places_at p key ≡ places_on key 0 slots

-- the places are those of the slots, and the number is that of the calls
pub record AreKept (slots : List (Option Waiting)) (p : Places) (n : ℕ) : Type 0 where
  pub places : AreOf slots p
  pub count : n ≡ length (present slots)
