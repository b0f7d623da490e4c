-- What of a history decides its fault: all its ids or, if one is stray, the first such id.
use Rattle.std.specs.Prelude.{ℕ, List, [], ◌∷◌, Option, None, Some}
use Rattle.register_model.specs.declared.call.Call.{Call}
use Rattle.register_model.specs.declared.history.History.{History}
use Rattle.history_record.specs.Clauses.{first_stray}

-- with a stray id, that id alone, which occurs again
abbrev pub short_by : History → Option ℕ → History
short_by h None = h
short_by h (Some id) = record h { calls = id ∷ id ∷ [] }

abbrev pub shortened : List Call → History → History
shortened calls h = short_by h (first_stray calls h.key h.calls)
