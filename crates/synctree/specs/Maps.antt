-- When a map stands under a digest: the tree of the map, in which each node is named by its MD5,
-- has this digest at its root.
use Rattle.std.specs.Prelude.{◌≡◌, ◌≢◌, ◌⊎◌, ℕ, zero, suc, ◌+◌, ◌<◌, ◌==◌, List, [], ◌∷◌, Option, None, Some, filter}
use Rattle.md5.specs.Md5.{md5}
use Rattle.ens_base.specs.declared.entry.Entry.{Entry}
use Rattle.ens_base.specs.Lists.{◌∈◌}
use Rattle.tree_node.specs.declared.position.Position.{Position}
use Rattle.synctree.specs.Entries.{IsMap}
use Rattle.synctree.specs.Forms.{Form, child, root}

-- f at n places, starting from i
abbrev pub each_of : {A : Type 0} → (ℕ → A) → ℕ → ℕ → List A
each_of f zero i = []
each_of f (suc n) i = f i ∷ each_of f n (i + 1)

-- the entries that belong to child c
abbrev pub within : Form → Position → ℕ → List Entry → List Entry
within F at c m = filter (λ e. F.digit e.key at.level == c) m

-- the digest of a node's text, or none for a node without entries
abbrev pub named : List Entry → List ℕ → Option (List ℕ)
named [] t = None
named (x ∷ xs) t = Some (md5 t)

-- the text of the node at a position, with h levels below it, of a map
abbrev pub text : Form → ℕ → Position → List Entry → List ℕ
text F zero at m = F.segment_text at m
text F (suc h) at m = F.inner_text at (each_of (λ c. named (within F at c m) (text F h (child F at c) (within F at c m))) F.width 0)

-- the digests of the children of an inner node
abbrev pub children : Form → ℕ → Position → List Entry → List (Option (List ℕ))
children F h at m = each_of (λ c. named (within F at c m) (text F h (child F at c) (within F at c m))) F.width 0

-- the string is the text of a node of the map; a child without entries is missing, and so no node
abbrev pub IsNode : Form → ℕ → Position → List Entry → List ℕ → Type 0
IsNode F zero at m s = s ≡ F.segment_text at m
IsNode F (suc h) at m s = (s ≡ text F (suc h) at m) ⊎ ((c : ℕ) × (c < F.width) × (within F at c m ≢ []) × IsNode F h (child F at c) (within F at c m) s)

-- the map stands under the digest
pub record Stands (F : Form) (d : List ℕ) (m : List Entry) : Type 0 where
  pub is_map : IsMap m
  pub root_is : d ≡ md5 (text F F.depth root m)

-- no string of the list has the digest of a different node of the map
abbrev pub AreApart : List (List ℕ) → Form → ℕ → Position → List Entry → Type 0
AreApart strings F h at m = (s t : List ℕ) → s ∈ strings → IsNode F h at m t → md5 s ≡ md5 t → s ≡ t

-- no node of one map has the digest of a different node of the other
abbrev pub NodesApart : Form → ℕ → Position → List Entry → List Entry → Type 0
NodesApart F h at m n = (s t : List ℕ) → IsNode F h at m s → IsNode F h at n t → md5 s ≡ md5 t → s ≡ t
