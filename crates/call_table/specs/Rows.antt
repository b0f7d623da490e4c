-- What a leader knows of each key, and what it asks about it.
use Rattle.std.specs.Prelude.{ℕ, Bool, true, false, Option, Some, None, List}
use Rattle.std.specs.BTreeMap.{is_at, insert_entry}
use Rattle.std.specs.Map.{lookup, remove_entry}
use Rattle.std.specs.Ordering.{nat_cmp}
use Rattle.ens_base.specs.Lists.{bytes_cmp}
use Rattle.ens_base.specs.declared.epoch.Version.{Version}
use Rattle.call_table.specs.declared.row.Known.{Known}
use Rattle.call_table.specs.declared.row.Known.TheVariants.{Unknown, Absent, Present}
use Rattle.call_table.specs.declared.row.Stage.{Stage}
use Rattle.call_table.specs.declared.row.Stage.TheVariants.{Idle, Checking, Putting}
use Rattle.call_table.specs.declared.row.KeyRow.{KeyRow}

-- the row of a key of which nothing is known, and about which nothing is asked
abbrev pub fresh : KeyRow
fresh = record { known = Unknown; stage = Idle }

-- the rows of the keys that were named, by key
abbrev pub Rows : Type 0
Rows = List (List ℕ × KeyRow)

abbrev pub row_or_fresh : Option KeyRow → KeyRow
row_or_fresh None = fresh
row_or_fresh (Some row) = row

-- the row of the key
unfoldable pub row_at : List ℕ → Rows → KeyRow
row_at key rows = row_or_fresh (lookup (is_at (bytes_cmp key)) rows)

-- the rows with this row for the key
abbrev pub with_row : List ℕ → KeyRow → Rows → Rows
with_row key row rows = insert_entry bytes_cmp rows key row

-- the rows with this knowledge of the key
unfoldable pub with_known : List ℕ → Known → Rows → Rows
with_known key known rows = with_row key (record (row_at key rows) { known = known }) rows

-- the rows with this stage for the key
unfoldable pub with_stage : List ℕ → Stage → Rows → Rows
with_stage key stage rows = with_row key (record (row_at key rows) { stage = stage }) rows

-- the settled version of a key, if there is one
abbrev pub base_of : Known → Option Version
base_of Unknown = None
base_of Absent = None
base_of (Present version stamp digest tombstone) = Some version

-- the round of the check, if the stage is a check
abbrev pub check_round : Stage → Option ℕ
check_round (Checking round heard reply) = Some round
check_round stage = None

-- whether a put waits for acknowledgements
abbrev pub has_put : Stage → Bool
has_put (Putting object digest acks rewrite) = true
has_put stage = false

-- the keys that are checking, by the round of the check
abbrev pub Checks : Type 0
Checks = List (ℕ × List ℕ)

-- the key that checks in this round
unfoldable pub check_at : ℕ → Checks → Option (List ℕ)
check_at round checks = lookup (is_at (nat_cmp round)) checks

-- the checks with this key for the round
unfoldable pub with_check : ℕ → List ℕ → Checks → Checks
with_check round key checks = insert_entry nat_cmp checks round key

-- the checks without the check of this round, if one is given
unfoldable pub without_check : Option ℕ → Checks → Checks
without_check None checks = checks
without_check (Some round) checks = remove_entry (is_at (nat_cmp round)) checks
