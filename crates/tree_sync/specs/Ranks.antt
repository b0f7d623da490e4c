-- How a merge is kept: the version and the digest of each key, in the order of the keys.
use Rattle.std.specs.Prelude.{◌≤◌, ℕ, Bool, false, not, List, length, Option, None, Some, map}
use Rattle.std.specs.List.{AllByRecursion}
use Rattle.std.specs.Ordering.{on, then_cmp, is_lt}
use Rattle.ens_base.specs.Epochs.{version_cmp}
use Rattle.ens_base.specs.Lists.{bytes_cmp}
use Rattle.ens_base.specs.declared.entry.Entry.{Entry}
use Rattle.tree_sync.specs.declared.merging.Rank.{Rank}

-- the entry of a key with this version and digest
abbrev pub entry_at : List ℕ × Rank → Entry
entry_at x = record { key = x.0; version = x.1.version; digest = x.1.digest }

abbrev pub entries_of : List (List ℕ × Rank) → List Entry
entries_of xs = map entry_at xs

-- whether the first rank is below the second: by version, then by digest
abbrev pub is_below : Rank → Rank → Bool
is_below a b = is_lt (then_cmp (on (λ r. r.version) version_cmp) (on (λ r. r.digest) bytes_cmp) a b)

-- whether there is a rank that is not below the other
abbrev pub is_at_least : Option Rank → Rank → Bool
is_at_least None rank = false
is_at_least (Some held) rank = not (is_below held rank)

-- no key is empty
abbrev pub HaveKeys : List Entry → Type 0
HaveKeys es = AllByRecursion (λ e. 1 ≤ length e.key) es

-- the version and the digest of an entry
abbrev pub rank_of : Entry → Rank
rank_of e = record { version = e.version; digest = e.digest }
