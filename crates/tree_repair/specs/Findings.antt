-- What may be found in a tree by a walk of it by depth, whatever each read returns.
use Rattle.std.specs.Prelude.{◌≡◌, ℕ, zero, suc, List, [], ◌∷◌, ◌++◌, Option, None, Some}
use Rattle.ens_base.specs.declared.entry.Entry.{Entry}
use Rattle.tree_node.specs.declared.body.Scan.{Scan}
use Rattle.tree_node.specs.declared.position.Position.{Position}
use Rattle.synctree.specs.Forms.{Form}
use Rattle.tree_repair.specs.declared.slot.Slot.{Slot}
use Rattle.tree_repair.specs.Levels.{verified, child_slots}
use Rattle.tree_repair.specs.Sorted.{sorted}

abbrev pub nothing : Scan
nothing = record { entries = []; damaged = [] }

-- a node that does not verify
abbrev pub damage : Position → Scan
damage at = record { entries = []; damaged = at ∷ [] }

-- the entries of a segment, or its position if it does not verify
abbrev pub segment_found : Position → Option (List Entry) → Scan
segment_found at None = damage at
segment_found at (Some entries) = record { entries = entries; damaged = [] }

-- one finding after another
abbrev pub joined : Scan → Scan → Scan
joined a b = record { entries = a.entries ++ b.entries; damaged = a.damaged ++ b.damaged }

-- this is what these nodes give, one after another
abbrev pub InTurn : (Slot → Scan → Type 0) → List Slot → Scan → Type 0
InTurn Gives [] found = found ≡ nothing
InTurn Gives (x ∷ xs) found = (first : Scan) × (rest : Scan) × Gives x first × InTurn Gives xs rest × (found ≡ joined first rest)

-- this is what the children of an inner node give in ascending order, or its position if it does
-- not verify
abbrev pub InnerGives : Form → (Slot → Scan → Type 0) → Position → Option (List (Option (List ℕ))) → Scan → Type 0
InnerGives F Gives at None found = found ≡ damage at
InnerGives F Gives at (Some names) found = InTurn Gives (child_slots F at 0 names) found

-- this may be found in a node with h levels below it, if a read may return anything
abbrev pub MayFind : Form → ℕ → Slot → Scan → Type 0
MayFind F zero x found = (read : Option (List ℕ)) × (found ≡ segment_found x.at (verified (F.segment_at x.at) x.digest read))
MayFind F (suc h) x found = (read : Option (List ℕ)) × InnerGives F (MayFind F h) x.at (verified (F.inner_at x.at) x.digest read) found

-- the finding with its entries in the order of their keys
abbrev pub by_key : Scan → Scan
by_key found = record { entries = sorted found.entries; damaged = found.damaged }
