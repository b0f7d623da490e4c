use Rattle.std.proofs.Common.{ℕ, List, drop}
use Rattle.history_scribe.specs.Marks.{all_noted}
use Rattle.history_scribe.specs.Told.{TellsBefore}
use Rattle.history_scribe.proofs.told.Told.of.Given as goal

abbrev pub invariant-loop-mark : goal.invariant-loop-mark
invariant-loop-mark l = (key : List ℕ) → TellsBefore l.told (all_noted key (drop l.mark-index l.marks)) (all_noted key l.marks) key
