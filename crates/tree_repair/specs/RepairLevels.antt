-- The nodes of a level that are there. Every node but the root is there only if it has entries, so a
-- level has no more of them than the map has entries.
use Rattle.std.specs.Prelude.{ℕ, zero, suc, ◌+◌, ◌*◌, ◌^◌, Bool, List, Option, filter, map}
use Rattle.std.specs.Option.{is_some}
use Rattle.ens_base.specs.declared.entry.Entry.{Entry}
use Rattle.synctree.specs.Forms.{Form}
use Rattle.synctree.specs.Maps.{each_of}
use Rattle.synctree.specs.Paths.{node_of}
use Rattle.tree_repair.specs.Hashers.{digest_if}
use Rattle.tree_repair.specs.Builds.{place}

-- the index of the node of a level that the path of a key goes through
abbrev pub index_of : Form → ℕ → List ℕ → ℕ
index_of F zero key = 0
index_of F (suc level) key = F.width * index_of F level key + F.digit key level

-- whether the node with this index is there
abbrev pub is_there : Form → ℕ → List Entry → ℕ → Bool
is_there F level m i = is_some (node_of F (place level i) m)

-- the indexes of the nodes that are there, from left to right
abbrev pub indexes_of : Form → ℕ → List Entry → List ℕ
indexes_of F level m = filter (is_there F level m) (each_of (λ i. i) (F.width ^ level) 0)

-- the text of each of them
abbrev pub texts_of : Form → ℕ → List Entry → List (Option (List ℕ))
texts_of F level m = map (λ i. node_of F (place level i) m) (indexes_of F level m)

-- the digest of each of them
abbrev pub names_of : Form → ℕ → List Entry → List (Option (List ℕ))
names_of F level m = map digest_if (texts_of F level m)
