-- The result of a call that uses neither the store nor the hasher.
use Rattle.std.specs.Prelude.{◌≡◌, Option, None, Some, Result, Ok, Err}
use Rattle.synctree.specs.TreeNode.{Position}
use Rattle.synctree.specs.declared.error.TreeError.{TreeError}
use Rattle.synctree.specs.declared.error.TreeError.TheVariants.{Damaged, Memory}

-- the node that the bytes encode, `Damaged` at this position if they encode none, or out of memory
abbrev pub Spells : {A : Type 0} → Result A TreeError → Position → Option A → Type 0
Spells (Ok x) at read = read ≡ Some x
Spells (Err (Damaged p)) at read = (read ≡ None) × (p ≡ at)
Spells (Err Memory) at read = Unit {0}
Spells (Err e) at read = ⊥

-- this value, or out of memory
abbrev pub Makes : {A : Type 0} → Result A TreeError → A → Type 0
Makes (Ok y) x = x ≡ y
Makes (Err e) x = e ≡ Memory
