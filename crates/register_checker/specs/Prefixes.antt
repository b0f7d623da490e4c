-- The prefixes of an order.
use Rattle.std.specs.Prelude.{ℕ, ◌+◌, ◌<◌, List, length, take}
use Rattle.register_model.specs.Histories.{IsRun}
use Rattle.register_model.specs.declared.answer.Answer.{Answer}
use Rattle.register_model.specs.declared.call.Call.{Call}

-- the order stops being a run at the call at this position: the shortest prefix of it that is no run ends
-- with that call
pub record StopsAt (calls : List Call) (answers : List Answer) (order : List ℕ) (place : ℕ) : Type 0 where
  pub within : place < length order
  pub before : IsRun calls answers (take place order)
  pub stops : ¬ (IsRun calls answers (take (place + 1) order))
