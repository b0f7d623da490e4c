-- What holds of every record that is read.
use Rattle.std.specs.Prelude.{◌≡◌, ◌≤◌, List, map}
use Rattle.ens_base.specs.Lists.{◌∈◌, AreDistinct}
use Rattle.register_model.specs.declared.answer.Answer.{Answer}
use Rattle.register_model.specs.declared.call.Call.{Call}
use Rattle.history_record.specs.Calls.{calls_from, keys_of}
use Rattle.history_record.specs.declared.record.Record.{Record}

-- the calls of a record
abbrev pub calls_of : Record → List Call
calls_of r = calls_from 1 r.schedule.events

-- the calls have distinct ids, no call has two answers, no answer comes before its call, and there is one
-- history for each key that a call names, the keys ascending
pub record IsRecord (r : Record) : Type 0 where
  pub calls : AreDistinct (map (λ c. c.id) (calls_of r))
  pub answers : AreDistinct (map (λ a. a.id) r.answers)
  pub in_order : (a : Answer) (c : Call) → a ∈ r.answers → c ∈ calls_of r → a.id ≡ c.id → c.event ≤ a.event
  pub keys : map (λ h. h.key) r.histories ≡ keys_of r.schedule.events
