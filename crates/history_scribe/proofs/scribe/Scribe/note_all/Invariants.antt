use Rattle.std.specs.Vec.Iter.{into_iter_items}
use Rattle.history_scribe.proofs.Taken.{Taking}
use Rattle.history_scribe.proofs.scribe.Scribe.note_all.Given as goal

abbrev pub invariant-loop-note : goal.invariant-loop-note
invariant-loop-note l = Taking l.initial.self.notes.items l.fn.notes.items l.self.notes.items (into_iter_items l.note-iterator)
