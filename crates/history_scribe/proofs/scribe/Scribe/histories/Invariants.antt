use Rattle.std.proofs.Common.{◌≡◌, map, take}
use Rattle.history_scribe.specs.Histories.{history_of}
use Rattle.history_scribe.proofs.scribe.Scribe.histories.Given as goal

abbrev pub invariant-loop-key : goal.invariant-loop-key
invariant-loop-key l = l.histories.items ≡ map (history_of l.self.notes.items) (take l.key-index l.key-items)
