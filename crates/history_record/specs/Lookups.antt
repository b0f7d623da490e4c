-- Lookups by key and by id.
use Rattle.std.specs.Prelude.{ℕ, Bool, false, nat_lt, List, [], Option, None, Some}
use Rattle.std.specs.BTreeMap.{BTreeMap, get}
use Rattle.std.specs.declared.cmp.Ordering.{Ordering}

abbrev pub list_or_empty : {T : Type 0} → Option (List T) → List T
list_or_empty None = []
list_or_empty (Some xs) = xs

-- the list of the key in the map, under this order of keys
abbrev pub list_at : {K T : Type 0} → (K → K → Ordering) → BTreeMap K (List T) → K → List T
list_at cmp m k = list_or_empty (get cmp m k)

-- whether there is an event, and it is before this one
abbrev pub is_before : Option ℕ → ℕ → Bool
is_before None event = false
is_before (Some e) event = nat_lt e event
