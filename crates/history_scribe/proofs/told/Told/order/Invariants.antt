use Rattle.std.proofs.Common.{◌≡◌, ◌++◌, ℕ, List, length, map}
use Rattle.std.specs.Prelude.{reverse}
use Rattle.register_model.specs.Orders.{rank, blocks, order}
use Rattle.register_model.specs.declared.note.Note.{Note}
use Rattle.history_scribe.specs.Told.{Tells}
use Rattle.history_scribe.proofs.told.Told.order.Given as goal

abbrev pub invariant-loop-version : goal.invariant-loop-version
invariant-loop-version l = (notes : List Note) (key : List ℕ) → Tells l.self notes key → l.calls.items ++ blocks notes key (reverse (map rank l.versions.items)) ≡ order notes key

abbrev pub decreases-loop-version : goal.decreases-loop-version
decreases-loop-version l = length l.versions.items
