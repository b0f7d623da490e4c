-- What the versions of a tree differ in.
use Rattle.std.specs.Prelude.{ℕ}
use Rattle.tree_node.specs.declared.version.TreeVersion.{TreeVersion}
use Rattle.tree_node.specs.declared.version.TreeVersion.TheVariants.{One, Two}

-- how many levels of inner nodes stand above the segments, which is the level of the segments
abbrev pub levels : TreeVersion → ℕ
levels One = 3
levels Two = 5

-- how many bits of the digest of a key lead to its segment
abbrev pub bits : TreeVersion → ℕ
bits One = 12
bits Two = 20

-- the first byte of an inner node
abbrev pub inner_tag : TreeVersion → ℕ
inner_tag One = 1
inner_tag Two = 3

-- the first byte of a segment
abbrev pub segment_tag : TreeVersion → ℕ
segment_tag One = 2
segment_tag Two = 4
