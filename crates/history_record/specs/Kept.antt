-- What reading keeps beside what it was told, to find the open calls and changes by a lookup.
use Rattle.std.specs.Prelude.{◌≡◌, ℕ, ◌+◌, ◌≤◌, ◌++◌, List, length, map, Option}
use Rattle.ens_base.specs.Lists.{◌∈◌, AreDistinct}
use Rattle.register_model.specs.declared.answer.Answer.{Answer}
use Rattle.register_model.specs.declared.call.Call.{Call}
use Rattle.register_checker.specs.Places.{ArePlaces}
use Rattle.schedule_text.specs.declared.schedule.Schedule.{Schedule}
use Rattle.history_record.specs.Calls.{calls_from, keys_of}
use Rattle.history_record.specs.Telling.{Heard, open_call, open_change}

-- a schedule of few lines, whose calls have distinct ids
pub record IsFit (s : Schedule) : Type 0 where
  pub lines : length s.events + 3 ≤ 200000
  pub calls : AreDistinct (map (λ c. c.id) (calls_from 1 s.events))

-- what was told so far may be the prefix of a record
pub record IsSound (h : Heard) : Type 0 where
  pub schedule : IsFit h.schedule
  pub answers : AreDistinct (map (λ a. a.id) h.answers)
  pub in_order : (a : Answer) (c : Call) → a ∈ h.answers → c ∈ calls_from 1 h.schedule.events → a.id ≡ c.id → c.event ≤ a.event
  pub keys : map (λ history. history.key) h.histories ++ h.keys ≡ keys_of h.schedule.events

-- two lookups find the open calls and the open changes; so many lines may come, and their number stays
-- far below the greatest u32
pub record IsKept (h : Heard) (find_call find_change : ℕ → Option ℕ) (more : ℕ) : Type 0 where
  pub calls : (id : ℕ) → find_call id ≡ open_call h id
  pub changes : (event : ℕ) → find_change event ≡ open_change h event
  pub few : h.lines + more ≤ 800004

-- these are the calls, and a lookup finds the places of their ids
pub record IsIndexed (h : Heard) (calls : List Call) (find : ℕ → Option ℕ) : Type 0 where
  pub are : calls ≡ calls_from 1 h.schedule.events
  pub places : ArePlaces find (map (λ c. c.id) calls)
