-- The histories of the routed keys.
use Rattle.std.specs.Prelude.{◌≡◌, ℕ, List, [], ◌∷◌, if◌then◌else◌, map, Option, None, Some}
use Rattle.std.specs.BTreeMap.{BTreeMap, get}
use Rattle.std.specs.List.{list_any}
use Rattle.ens_base.specs.Lists.{bytes_cmp, same_bytes}
use Rattle.history_scribe.specs.Histories.{AreSorted}
use Rattle.register_model.specs.Orders.{order}
use Rattle.register_model.specs.declared.history.History.{History}
use Rattle.root_laws.specs.Runs.{key_history}
use Rattle.root_laws.specs.Text.{keys_in}
use Rattle.scripts.specs.declared.script.RootScript.{RootScript}
use Rattle.replay.specs.WorldModel.{run_of, World}
use Rattle.root.specs.Worlds.{worlds}

-- the calls of the history of a key, or else these
abbrev pub calls_in : List History → List ℕ → Option (List ℕ) → Option (List ℕ)
calls_in [] key calls = calls
calls_in (h ∷ more) key calls = calls_in more key (if same_bytes h.key key then Some h.calls else calls)

-- the order of a key in a world, if a call on it came, and else these calls
abbrev pub order_by : World → List ℕ → Option (List ℕ) → Option (List ℕ)
order_by w key calls = if list_any (same_bytes key) (run_of w).called then Some (order (run_of w).notes key) else calls

-- the same of the last of some worlds
abbrev pub orders_by : List (ℕ × World) → List ℕ → Option (List ℕ) → Option (List ℕ)
orders_by [] key calls = calls
orders_by (e ∷ more) key calls = orders_by more key (order_by e.1 key calls)

-- the calls on each key
abbrev pub AreCalls : BTreeMap (List ℕ) (List ℕ) → (List ℕ → Option (List ℕ)) → Type 0
AreCalls calls of = (key : List ℕ) → get bytes_cmp calls key ≡ of key

-- the history with the calls that are kept under its key, if there are such
abbrev pub with_calls : Option (List ℕ) → History → History
with_calls None h = h
with_calls (Some calls) h = record h { calls = calls }

abbrev pub filled : (List ℕ → Option (List ℕ)) → History → History
filled of h = with_calls (of h.key) h

-- a history without calls for each of these keys, the keys ascending
abbrev pub AreEmptyHistories : List (List ℕ) → List History → Type 0
AreEmptyHistories named histories = (keys : List (List ℕ)) × AreSorted named keys × (histories ≡ map (λ key. record { key = key; calls = [] }) keys)

-- a history of each routed key, the keys ascending
abbrev pub AreKeyHistories : RootScript → List History → Type 0
AreKeyHistories s histories =
    (keys : List (List ℕ)) × AreSorted (keys_in s.events) keys × (histories ≡ map (λ key. record { key = key; calls = key_history worlds s key }) keys)
