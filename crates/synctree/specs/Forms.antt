-- A hash tree: its shape, and how its nodes are encoded.
use Rattle.std.specs.Prelude.{◌≡◌, ◌+◌, ◌*◌, ◌<◌, ◌^◌, ℕ, List, [], ◌∷◌, Option, None, Some, length}
use Rattle.ens_base.specs.declared.entry.Entry.{Entry}
use Rattle.fields.specs.Numbers.{IsRun}
use Rattle.tree_node.specs.declared.position.Position.{Position}
use Rattle.synctree.specs.Entries.{IsMap}

-- Inner nodes have `width` children, and there are `depth` levels of inner nodes above the
-- segments. At each level a key belongs to one child. An inner node encodes the digests of its
-- children, and none for a missing child.
pub record Form : Type 0 where
  pub width : ℕ
  pub depth : ℕ
  pub digit : List ℕ → ℕ → ℕ
  pub inner_text : Position → List (Option (List ℕ)) → List ℕ
  pub inner_at : Position → List ℕ → Option (List (Option (List ℕ)))
  pub segment_text : Position → List Entry → List ℕ
  pub segment_at : Position → List ℕ → Option (List Entry)

abbrev pub root : Position
root = record { level = 0; index = 0 }

-- child c of a node
abbrev pub child : Form → Position → ℕ → Position
child F at c = record { level = at.level + 1; index = F.width * at.index + c }

-- a position of the tree with h levels below it
pub record IsPlace (F : Form) (h : ℕ) (at : Position) : Type 0 where
  pub level : at.level + h ≡ F.depth
  pub index : at.index < F.width ^ at.level

-- each digest, if present, has 16 bytes
abbrev pub AreNames : List (Option (List ℕ)) → Type 0
AreNames [] = Unit {0}
AreNames (None ∷ cs) = AreNames cs
AreNames (Some d ∷ cs) = IsRun 16 d × AreNames cs

-- decoding what was encoded gives the same node
pub record Laws (F : Form) : Type 0 where
  pub in_width : (key : List ℕ) (level : ℕ) → F.digit key level < F.width
  pub inner_again : (h : ℕ) (at : Position) (cs : List (Option (List ℕ))) → IsPlace F h at → length cs ≡ F.width → AreNames cs → F.inner_at at (F.inner_text at cs) ≡ Some cs
  pub segment_again : (h : ℕ) (at : Position) (es : List Entry) → IsPlace F h at → IsMap es → F.segment_at at (F.segment_text at es) ≡ Some es
