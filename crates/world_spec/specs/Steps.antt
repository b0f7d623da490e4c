-- What the step or the start of a peer came to, and what its hasher took.
use Rattle.std.specs.Prelude.{◌≡◌, ℕ, List}
use Rattle.world_spec.specs.Held.{Account, HasHashed}
use Rattle.peer_state.specs.declared.state.Mode.{Mode}
use Rattle.register_model.specs.declared.note.Note.{Note}
use Rattle.step_plans.specs.Plans.{Out}
use Rattle.world_spec.specs.Nodes.{Node, Taken, started, hashed_by_start}

abbrev pub outcome : Node → Out → List Note → List (List ℕ) → Taken
outcome node out notes hashed = record { node = node; out = out; notes = notes; hashed = hashed }

-- a step came to this outcome, and the hasher took the strings of the outcome
pub record ComesTo (first now : Account) (due : Taken) (node : Node) (out : Out) (notes : List Note) : Type 0 where
  pub is : outcome node out notes due.hashed ≡ due
  pub has : HasHashed due.hashed first now

-- a start in this mode led from one node to the other, and the hasher took the strings of the start
pub record StartsAs (first now : Account) (mode : Mode) (view : List ℕ) (old new : Node) : Type 0 where
  pub is : new ≡ started mode view old
  pub has : HasHashed (hashed_by_start mode view old) first now
