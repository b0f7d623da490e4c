-- The plain scan of a tree: by recursion from the root, over what is stored under each digest.
use Rattle.std.specs.Prelude.{ℕ, zero, suc, List, [], ◌∷◌, Option, None, Some}
use Rattle.tree_node.specs.declared.body.Scan.{Scan}
use Rattle.tree_node.specs.declared.position.Position.{Position}
use Rattle.synctree.specs.Forms.{Form, root}
use Rattle.tree_repair.specs.declared.slot.Slot.{Slot}
use Rattle.tree_repair.specs.Findings.{nothing, damage, segment_found, joined, by_key}
use Rattle.tree_repair.specs.Levels.{verified, slot, child_slots}

-- what is stored under the digest of a node, and nothing where no digest is named
abbrev pub stored : (List ℕ → Option (List ℕ)) → Option (List ℕ) → Option (List ℕ)
stored has None = None
stored has (Some digest) = has digest

-- what these nodes give, one after another
abbrev pub in_turn : (Slot → Scan) → List Slot → Scan
in_turn gives [] = nothing
in_turn gives (x ∷ xs) = joined (gives x) (in_turn gives xs)

-- what the children of an inner node give in ascending order, or its position if it does not verify
abbrev pub inner_found : Form → (Slot → Scan) → Position → Option (List (Option (List ℕ))) → Scan
inner_found F gives at None = damage at
inner_found F gives at (Some names) = in_turn gives (child_slots F at 0 names)

-- what is found in a node with h levels below it
abbrev pub found_below : Form → (List ℕ → Option (List ℕ)) → ℕ → Slot → Scan
found_below F has zero x = segment_found x.at (verified (F.segment_at x.at) x.digest (stored has x.digest))
found_below F has (suc h) x = inner_found F (found_below F has h) x.at (verified (F.inner_at x.at) x.digest (stored has x.digest))

-- the plain scan; without a top record the root is damaged
abbrev pub plain_scan : Form → (List ℕ → Option (List ℕ)) → Option (List ℕ) → Scan
plain_scan F has top = by_key (found_below F has F.depth (slot root top))
