-- The histories of the keys that calls named.
use Rattle.std.specs.Prelude.{◌≡◌, ◌↔◌, ℕ, List, Contains, map}
use Rattle.std.specs.List.Sorted.{IsStrictlySortedBy}
use Rattle.ens_base.specs.Lists.{bytes_cmp}
use Rattle.register_model.specs.Orders.{order}
use Rattle.register_model.specs.declared.history.History.{History}
use Rattle.register_model.specs.declared.note.Note.{Note}

-- the same keys, strictly ascending
pub record AreSorted (named keys : List (List ℕ)) : Type 0 where
  pub same : (key : List ℕ) → Contains keys key ↔ Contains named key
  pub ascending : IsStrictlySortedBy bytes_cmp keys

-- the history of a key: its calls, in the order that follows from the notes
abbrev pub history_of : List Note → List ℕ → History
history_of notes key = record { key = key; calls = order notes key }

-- one history for each key that was named, the keys ascending
abbrev pub AreHistories : List Note → List (List ℕ) → List History → Type 0
AreHistories notes named histories = (keys : List (List ℕ)) × AreSorted named keys × (histories ≡ map (history_of notes) keys)
