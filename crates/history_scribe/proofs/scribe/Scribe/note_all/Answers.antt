use Rattle.std.specs.Vec.Iter.{into_iter_items}
use Rattle.history_scribe.proofs.Taken.{prefix_taken}
use Rattle.history_scribe.proofs.scribe.Scribe.note_all.Goals as goal

pub returns-in_err-note-clause-err : goal.returns-in_err-note-clause-err
returns-in_err-note-clause-err c = rw c.in_err-note.ensures.err (prefix_taken c.from_residual.result c.args.self.now.notes.items c.args.notes.items c.loop-note.self.notes.items (into_iter_items c.loop-note.note-iterator) c.loop-note.invariant)
