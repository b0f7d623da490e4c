-- What reading a line behind the heading gives: the event, or the first cause for which it is refused.
use Rattle.std.specs.Prelude.{ℕ, ◌-◌, ◌^◌, Bool, true, false, ◌==◌, ◌||◌, nat_lt, if◌then◌else◌, List, [], ◌∷◌, length, codes, Result, Ok, Err}
use Rattle.ens_base.specs.Lists.{same_bytes}
use Rattle.ens_base.specs.Results.{◌>>=◌}
use Rattle.lexemes.specs.Causes.{or_cause}
use Rattle.lexemes.specs.Words.{words_of, number_of, peer_of, view_of}
use Rattle.lexemes.specs.declared.cause.Cause.{Cause}
use Rattle.lexemes.specs.declared.cause.Cause.TheVariants.{TooLong, Unknown, Words}
use Rattle.schedule_text.specs.Arguments.{has_empty}
use Rattle.schedule_text.specs.Events.{call_of, line_limit, words_event}
use Rattle.schedule_text.specs.declared.event.ScheduleEvent.{ScheduleEvent}
use Rattle.schedule_text.specs.declared.event.ScheduleEvent.TheVariants.{Call}
use Rattle.scripts.specs.Keywords.{keyword_of}
use Rattle.scripts.specs.declared.slots.Ensemble.{Ensemble}
use Rattle.scripts.specs.declared.slots.Ensemble.TheVariants.{Root, Slot}
use Rattle.scripts.specs.declared.event.RootEvent.{RootEvent}
use Rattle.scripts.specs.declared.event.RootEvent.TheVariants.{At, Open, Look, Route}
use Rattle.scripts.specs.declared.keyword.Keyword.{Keyword}
use Rattle.scripts.specs.declared.keyword.Keyword.TheVariants as line

-- a slot: a number from 0 to 63
abbrev pub slot_of : List ℕ → Result ℕ Cause
slot_of word = number_of 0 63 word

-- an ensemble: `r` for the root, or a slot
abbrev pub ensemble_of : List ℕ → Result Ensemble Cause
ensemble_of word =
    if length word == 0 then Err Words
    else if same_bytes word (codes "r") then Ok Root
    else slot_of word >>= λ slot. Ok (Slot slot)

-- the first words of the events that may not stand behind `at`: calls, and changes of the form of an
-- ensemble
abbrev pub is_barred : List ℕ → Bool
is_barred word = same_bytes word (codes "call") || same_bytes word (codes "upgrade") || same_bytes word (codes "deepen")

-- an event of one ensemble
abbrev pub own_event : ℕ → List (List ℕ) → Result ScheduleEvent Cause
own_event peers [] = Err Unknown
own_event peers (first ∷ words) = if is_barred first then Err Unknown else words_event peers (first ∷ words)

-- the causes that are tested before the ensemble is: the first word of the event, and the number of its words
abbrev pub is_early : Cause → Bool
is_early Unknown = true
is_early Words = true
is_early _ = false

-- an event in the ensemble of this word; the ensemble is tested before the other words of the event
abbrev pub in_ensemble : List ℕ → Result ScheduleEvent Cause → Result RootEvent Cause
in_ensemble word (Ok event) = ensemble_of word >>= λ ensemble. Ok (At ensemble event)
in_ensemble word (Err cause) = if is_early cause then Err cause else ensemble_of word >>= λ ensemble. Err cause

-- S EVENT
abbrev pub at_of : ℕ → List (List ℕ) → Result RootEvent Cause
at_of peers (word ∷ first ∷ words) = in_ensemble word (own_event peers (first ∷ words))
at_of peers _ = Err Words

-- the opening of a slot, from the words of its peer, its id, its slot and its members
abbrev pub open_from : ℕ → List ℕ → List ℕ → List ℕ → List (List ℕ) → Result RootEvent Cause
open_from peers p i s members = do
  peer ← peer_of peers p
  id ← number_of 0 (2 ^ 64 - 1) i
  slot ← slot_of s
  view ← view_of peers members
  Ok (Open peer id slot view)

-- P ID SLOT M ..
abbrev pub open_of : ℕ → List (List ℕ) → Result RootEvent Cause
open_of peers (p ∷ i ∷ s ∷ members) =
    if has_empty (p ∷ i ∷ s ∷ members) || length members == 0 then Err Words
    else open_from peers p i s members
open_of peers _ = Err Words

-- the look at a slot, from the words of its peer, its id and its slot
abbrev pub look_from : ℕ → List ℕ → List ℕ → List ℕ → Result RootEvent Cause
look_from peers p i s = do
  peer ← peer_of peers p
  id ← number_of 0 (2 ^ 64 - 1) i
  slot ← slot_of s
  Ok (Look peer id slot)

-- P ID SLOT
abbrev pub look_of : ℕ → List (List ℕ) → Result RootEvent Cause
look_of peers (p ∷ i ∷ s ∷ []) = if has_empty (p ∷ i ∷ s ∷ []) then Err Words else look_from peers p i s
look_of peers _ = Err Words

-- a call, that goes to the ensemble of the slot of its key; a line of a call gives no other event
abbrev pub routed : ScheduleEvent → Result RootEvent Cause
routed (Call peer id key command) = Ok (Route peer id key command)
routed _ = Err Unknown

-- P ID COMMAND KEY ARGS: the words of a call
abbrev pub route_of : ℕ → List (List ℕ) → Result RootEvent Cause
route_of peers words = call_of peers words >>= λ event. routed event

-- a line, from the words behind its keyword
abbrev pub keyword_event : ℕ → Keyword → List (List ℕ) → Result RootEvent Cause
keyword_event peers line.At words = at_of peers words
keyword_event peers line.Open words = open_of peers words
keyword_event peers line.Look words = look_of peers words
keyword_event peers line.Route words = route_of peers words

-- a line, from its words: its keyword first, then the words behind it
abbrev pub words_root_event : ℕ → List (List ℕ) → Result RootEvent Cause
words_root_event peers [] = Err Unknown
words_root_event peers (first ∷ words) = or_cause Unknown (keyword_of first) >>= λ keyword. keyword_event peers keyword words

-- an event line, read where each ensemble has so many peers
abbrev pub root_event_of : ℕ → List ℕ → Result RootEvent Cause
root_event_of peers text = if nat_lt line_limit (length text) then Err TooLong else words_root_event peers (words_of text)
