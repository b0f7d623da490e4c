use Rattle.std.proofs.Common.{◌≡◌, ◌++◌, ℕ, List, map}
use Rattle.std.specs.Prelude.{reverse}
use Rattle.register_model.specs.Orders.{rank, rank_or_none, parent_in, chain, settled_chain}
use Rattle.register_model.specs.declared.note.Note.{Note}
use Rattle.history_scribe.specs.Told.{Tells}
use Rattle.history_scribe.proofs.told.Told.chain.Given as goal

abbrev pub invariant-loop-next : goal.invariant-loop-next
invariant-loop-next l = (notes : List Note) (key : List ℕ) → Tells l.self notes key → chain (rank_or_none l.next) (parent_in notes key) (rank_or_none l.next) ++ reverse (map rank l.versions.items) ≡ settled_chain notes key

abbrev pub decreases-loop-next : goal.decreases-loop-next
decreases-loop-next l = rank_or_none l.next
