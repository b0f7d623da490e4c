-- A history of one key, and when it is legal (after Herlihy and Wing 1990).
use Rattle.std.specs.Prelude.{◌≡◌, ℕ, ◌<◌, Bool, true, false, List, [], ◌∷◌, Some, slice_get}
use Rattle.ens_base.specs.Lists.{◌∈◌, AreDistinct}
use Rattle.ens_base.specs.declared.epoch.Version.{Version}
use Rattle.ens_base.specs.declared.reply.Reply.{Reply}
use Rattle.register_model.specs.Registers.{Steps, stamps_after}
use Rattle.register_model.specs.declared.register.Register.{Register}
use Rattle.register_model.specs.declared.register.Register.TheVariants.{Absent}
use Rattle.register_model.specs.declared.call.Call.{Call}
use Rattle.register_model.specs.declared.answer.Answer.{Answer}

-- the call was completed
abbrev pub IsDone : Reply → Type 0
IsDone (Reply.Value stamp bytes) = Unit {0}
IsDone Reply.NotFound = Unit {0}
IsDone (Reply.Ok stamp) = Unit {0}
IsDone Reply.Failed = Unit {0}
IsDone reply = ⊥

-- the call was refused, and had no effect; a call that timed out or was not answered is neither
-- completed nor refused
abbrev pub IsRefused : Reply → Type 0
IsRefused Reply.Unavailable = Unit {0}
IsRefused Reply.Busy = Unit {0}
IsRefused Reply.Lost = Unit {0}
IsRefused reply = ⊥

-- whether the call was completed, as a test
abbrev pub is_done : Reply → Bool
is_done (Reply.Value stamp bytes) = true
is_done Reply.NotFound = true
is_done (Reply.Ok stamp) = true
is_done Reply.Failed = true
is_done reply = false

-- whether the call was refused, as a test
abbrev pub is_refused : Reply → Bool
is_refused Reply.Unavailable = true
is_refused Reply.Busy = true
is_refused Reply.Lost = true
is_refused reply = false

-- a completed call has its printed reply; any other call may have any
abbrev pub MayHave : List Answer → ℕ → Reply → Type 0
MayHave answers id reply = (a : Answer) → a ∈ answers → a.id ≡ id → IsDone a.reply → reply ≡ a.reply

-- the calls in this order are steps of one register, one after another, starting from this register
abbrev pub RunsFrom : List Call → List Answer → List Version → Register → List ℕ → Type 0
RunsFrom calls answers stamps old [] = Unit {0}
RunsFrom calls answers stamps old (id ∷ rest) =
    (call : Call) × (reply : Reply) × (new : Register) × (call ∈ calls) × (call.id ≡ id) × MayHave answers id reply × Steps stamps old call.command reply new × RunsFrom calls answers (stamps_after reply stamps) new rest

-- the order is a run of one register, which is absent at first
abbrev pub IsRun : List Call → List Answer → List ℕ → Type 0
IsRun calls answers order = RunsFrom calls answers [] Absent order

-- wherever both occur in the order, i comes before j
abbrev pub StandsBefore : List ℕ → ℕ → ℕ → Type 0
StandsBefore order i j = (p q : ℕ) → slice_get order p ≡ Some i → slice_get order q ≡ Some j → p < q

-- the order of ids is a legal history of the key
pub record IsLegal (calls : List Call) (answers : List Answer) (key : List ℕ) (order : List ℕ) : Type 0 where
  -- each id occurs at most once, and is that of a call on the key
  pub once : AreDistinct order
  pub of_key : (id : ℕ) → id ∈ order → (c : Call) × (c ∈ calls) × (c.id ≡ id) × (c.key ≡ key)
  -- every completed call on the key occurs, and no refused call does
  pub completed : (c : Call) (a : Answer) → c ∈ calls → a ∈ answers → a.id ≡ c.id → c.key ≡ key → IsDone a.reply → c.id ∈ order
  pub refused : (a : Answer) → a ∈ answers → IsRefused a.reply → ¬ (a.id ∈ order)
  -- the order is a run of one register with the printed replies
  pub run : IsRun calls answers order
  -- no call that began after a completed call was answered comes before it
  pub in_time : (a : Answer) (c : Call) → a ∈ answers → c ∈ calls → IsDone a.reply → a.event < c.event → StandsBefore order a.id c.id
