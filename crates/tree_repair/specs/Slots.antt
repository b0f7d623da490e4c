-- Which slots a level may have, and what the calls on one slot and one level return.
use Rattle.std.specs.Prelude.{◌≡◌, ◌+◌, ℕ, List, Option, None, Some, Result, Ok, Err, All, map}
use Rattle.tree_node.specs.declared.position.Position.{Position}
use Rattle.tree_node.specs.declared.version.TreeVersion.{TreeVersion}
use Rattle.tree_node.specs.TreeVersions.{levels}
use Rattle.tree_node.specs.Positions.{IsPosition}
use Rattle.synctree.specs.declared.error.TreeError.{TreeError}
use Rattle.tree_repair.specs.declared.slot.Slot.{Slot}
use Rattle.tree_repair.specs.declared.level.Level.{Level}
use Rattle.tree_repair.specs.Hashers.{digest_if}

-- a node to be read has h levels below it
abbrev pub HasBelow : TreeVersion → ℕ → Position → Option (List ℕ) → Type 0
HasBelow v h at None = Unit {0}
HasBelow v h at (Some digest) = at.level + h ≡ levels v

-- a slot of the level with h levels below it, in the tree of this version
pub record IsSlot (v : TreeVersion) (h : ℕ) (x : Slot) : Type 0 where
  pub position : IsPosition v x.at
  pub below : HasBelow v h x.at x.digest

abbrev pub AreSlots : TreeVersion → ℕ → List Slot → Type 0
AreSlots v h slots = All (IsSlot v h) slots

-- the reads of a level with their digests, or an error
abbrev pub Reads : (Result (List (Option (List ℕ))) TreeError → Type 0) → Result Level TreeError → Type 0
Reads did (Ok level) = did (Ok level.reads) × (level.found ≡ map digest_if level.reads)
Reads did (Err e) = did (Err e)
