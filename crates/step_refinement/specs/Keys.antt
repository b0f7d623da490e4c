-- The keys of versions, and the number of calls.
use Rattle.std.specs.Prelude.{◌≡◌, ◌≤◌, ◌<◌, ◌^◌, ℕ, true, List, length}
use Rattle.ens_base.specs.Lists.{◌∈◌, AreDistinct}
use Rattle.register_model.specs.declared.call.Call.{Call}
use Rattle.protocol_laws.specs.Protocol.{State}

-- some call is on the key
abbrev pub IsCalled : State → List ℕ → Type 0
IsCalled s key = (c : Call) × (c ∈ s.book.calls) × (c.key ≡ key)

-- some call is on the key of each proposed version
abbrev pub KeysAreCalled : State → Type 0
KeysAreCalled s = (v : ℕ) → s.objects.proposed v ≡ true → IsCalled s (s.objects.key v)

-- the key is that of a proposed version
abbrev pub IsProposed : State → List ℕ → Type 0
IsProposed s key = (v : ℕ) × (s.objects.proposed v ≡ true) × (s.objects.key v ≡ key)

-- distinct keys of proposed versions are no more than the calls
abbrev pub KeysAreFew : State → Type 0
KeysAreFew s = (keys : List (List ℕ)) → AreDistinct keys → ((key : List ℕ) → key ∈ keys → IsProposed s key) → length keys ≤ length s.book.calls

-- distinct ids that were called are no more than the calls
abbrev pub IdsAreFew : State → Type 0
IdsAreFew s = (ids : List ℕ) → AreDistinct ids → ((id : ℕ) → id ∈ ids → s.book.called id ≡ true) → length ids ≤ length s.book.calls

-- there are no more calls than events
abbrev pub CallsAreFew : State → Type 0
CallsAreFew s = length s.book.calls ≤ s.book.now

-- The ids of these calls are among fewer than 2^60, and their keys among fewer than 2^32. A step makes some turns for
-- each call that is unanswered, and counts its turns in eight bytes; a segment of a tree counts its entries in four.
pub record AreFew (calls : List Call) : Type 0 where
  pub ids : List ℕ
  pub few_ids : length ids < 2 ^ 60
  pub own_id : (c : Call) → c ∈ calls → c.id ∈ ids
  pub keys : List (List ℕ)
  pub few_keys : length keys < 2 ^ 32
  pub own_key : (c : Call) → c ∈ calls → c.key ∈ keys

-- distinct keys of proposed versions are fewer than 2^32, if the calls are few
abbrev pub KeysAreBelow : State → Type 0
KeysAreBelow s = AreFew s.book.calls → (keys : List (List ℕ)) → AreDistinct keys → ((key : List ℕ) → key ∈ keys → IsProposed s key) → length keys < 2 ^ 32

-- and distinct ids that were called fewer than 2^60
abbrev pub IdsAreBelow : State → Type 0
IdsAreBelow s = AreFew s.book.calls → (ids : List ℕ) → AreDistinct ids → ((id : ℕ) → id ∈ ids → s.book.called id ≡ true) → length ids < 2 ^ 60
