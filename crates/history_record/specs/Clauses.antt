-- Why an order of ids is no legal history of a key: the first of the four clauses of legality that it
-- violates, and the id at which it does.
--
--   1  each id occurs once, and is that of a call on the key
--   2  every completed call on the key occurs, and no refused call does
--   3  the calls in this order are a run of one register with the printed replies
--   4  no call that began after a completed call was answered comes before it
use Rattle.std.specs.Prelude.{◌≡◌, ◌⊎◌, ℕ, Bool, ◌&&◌, ◌||◌, not, ◌==◌, nat_lt, if◌then◌else◌, List, [], ◌∷◌, Option, None, Some, slice_get}
use Rattle.std.specs.List.{list_any}
use Rattle.ens_base.specs.Lists.{same_bytes, is_in}
use Rattle.register_model.specs.Histories.{IsRun, is_done, is_refused}
use Rattle.register_model.specs.declared.answer.Answer.{Answer}
use Rattle.register_model.specs.declared.call.Call.{Call}
use Rattle.register_checker.specs.Prefixes.{StopsAt}

-- whether the call with this id was completed, and whether it was refused
abbrev pub was_done : List Answer → ℕ → Bool
was_done answers id = list_any (λ a. a.id == id && is_done a.reply) answers

abbrev pub was_refused : List Answer → ℕ → Bool
was_refused answers id = list_any (λ a. a.id == id && is_refused a.reply) answers

-- whether the call with this id was completed before an event
abbrev pub was_done_before : List Answer → ℕ → ℕ → Bool
was_done_before answers event id = list_any (λ a. a.id == id && (is_done a.reply && nat_lt a.event event)) answers

-- whether the id is that of a call on the key
abbrev pub is_call_on : List Call → List ℕ → ℕ → Bool
is_call_on calls key id = list_any (λ c. c.id == id && same_bytes c.key key) calls

-- the ids of the calls on the key, in the order of the calls
abbrev pub ids_on : List Call → List ℕ → List ℕ
ids_on [] key = []
ids_on (c ∷ calls) key = if same_bytes c.key key then c.id ∷ ids_on calls key else ids_on calls key

-- clause 1: the first id that occurs again, or is not that of a call on the key
abbrev pub first_stray : List Call → List ℕ → List ℕ → Option ℕ
first_stray calls key [] = None
first_stray calls key (id ∷ rest) = if is_in rest id || not (is_call_on calls key id) then Some id else first_stray calls key rest

-- whether the call with this id was completed and does not occur, or was refused and occurs
abbrev pub is_amiss : List Answer → List ℕ → ℕ → Bool
is_amiss answers order id = (was_done answers id && not (is_in order id)) || (was_refused answers id && is_in order id)

-- the first of these ids with which something is amiss
abbrev pub first_amiss_in : List Answer → List ℕ → List ℕ → Option ℕ
first_amiss_in answers order [] = None
first_amiss_in answers order (id ∷ ids) = if is_amiss answers order id then Some id else first_amiss_in answers order ids

-- clause 2: the first call on the key that was completed and does not occur, or was refused and occurs
abbrev pub first_amiss : List Call → List Answer → List ℕ → List ℕ → Option ℕ
first_amiss calls answers key order = first_amiss_in answers order (ids_on calls key)

-- clause 3: the last id of the shortest prefix of the order that is no run
abbrev pub IsAstray : List Call → List Answer → List ℕ → ℕ → Type 0
IsAstray calls answers order id = (place : ℕ) × (slice_get order place ≡ Some id) × StopsAt calls answers order place

-- whether the call with this id began after one of those behind it had been completed
abbrev pub is_late : List Call → List Answer → List ℕ → ℕ → Bool
is_late calls answers rest id = list_any (λ c. c.id == id && list_any (was_done_before answers c.event) rest) calls

-- clause 4: the first id whose call began after a call behind it had been completed
abbrev pub first_late : List Call → List Answer → List ℕ → Option ℕ
first_late calls answers [] = None
first_late calls answers (id ∷ rest) = if is_late calls answers rest id then Some id else first_late calls answers rest

-- the order keeps clause 1, clauses 1 and 2, and so on
abbrev pub KeepsOne : List Call → List ℕ → List ℕ → Type 0
KeepsOne calls key order = first_stray calls key order ≡ None

abbrev pub KeepsTwo : List Call → List Answer → List ℕ → List ℕ → Type 0
KeepsTwo calls answers key order = KeepsOne calls key order × (first_amiss calls answers key order ≡ None)

abbrev pub KeepsThree : List Call → List Answer → List ℕ → List ℕ → Type 0
KeepsThree calls answers key order = KeepsTwo calls answers key order × IsRun calls answers order

-- the first clause that the order violates, and the id at which it does
abbrev pub IsFault : List Call → List Answer → List ℕ → List ℕ → ℕ → ℕ → Type 0
IsFault calls answers key order clause id =
    ((clause ≡ 1) × (first_stray calls key order ≡ Some id))
    ⊎ (((clause ≡ 2) × KeepsOne calls key order × (first_amiss calls answers key order ≡ Some id))
    ⊎ (((clause ≡ 3) × KeepsTwo calls answers key order × IsAstray calls answers order id)
    ⊎ ((clause ≡ 4) × KeepsThree calls answers key order × (first_late calls answers order ≡ Some id))))
