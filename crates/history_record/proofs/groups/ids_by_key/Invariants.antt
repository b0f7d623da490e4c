use Rattle.std.proofs.Common.{◌≡◌, ℕ, List, take}
use Rattle.ens_base.specs.Lists.{bytes_cmp}
use Rattle.history_record.specs.Clauses.{ids_on}
use Rattle.history_record.specs.Lookups.{list_at}
use Rattle.history_record.proofs.groups.ids_by_key.Given as goal

abbrev pub invariant-loop-call : goal.invariant-loop-call
invariant-loop-call l = (key : List ℕ) → list_at bytes_cmp l.ids.lists key ≡ ids_on (take l.call-index l.calls) key
