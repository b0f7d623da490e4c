-- Lists by key.
use Rattle.std.specs.Prelude.{List, [], Option, None, Some}
use Rattle.std.specs.BTreeMap.{BTreeMap, get}
use Rattle.std.specs.declared.cmp.Ordering.{Ordering}

abbrev pub list_or_empty : {T : Type 0} → Option (List T) → List T
list_or_empty None = []
list_or_empty (Some xs) = xs

-- the list of the key in the map, under this order of keys
abbrev pub list_at : {K T : Type 0} → (K → K → Ordering) → BTreeMap K (List T) → K → List T
list_at cmp m k = list_or_empty (get cmp m k)
