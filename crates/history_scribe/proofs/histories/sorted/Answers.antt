use Rattle.std.proofs.lemmas.List.Filters.{dedup_is}
use Rattle.history_scribe.proofs.Keys.{sorted_once}
use Rattle.history_scribe.proofs.histories.sorted.Goals as goal

pub returns : goal.returns
returns c = sorted_once _ _ _ _ c.in_ok-sorted.ensures c.sort_unstable.ensures.permutation c.sort_unstable.ensures.sorted (dedup_is _ _ _ c.dedup.ensures.filtered)
