-- Positions of nodes, and how they are spelled.
use Rattle.std.specs.Prelude.{◌≤◌, ◌<◌, ◌^◌, ℕ, Bool, List, [], ◌∷◌, ◌++◌, Result, Ok, Err, nat_le, nat_lt, ◌==◌, ◌&&◌, if◌then◌else◌}
use Rattle.byteorder.specs.Endian.{big_bytes}
use Rattle.fields.specs.declared.field_error.FieldError.{FieldError}
use Rattle.fields.specs.declared.field_error.FieldError.TheVariants.{Rule}
use Rattle.ens_base.specs.Results.{◌>>=◌}
use Rattle.fields.specs.Numbers.{byte_at, number_at}
use Rattle.tree_node.specs.declared.position.Position.{Position}
use Rattle.tree_node.specs.declared.version.TreeVersion.{TreeVersion}
use Rattle.tree_node.specs.TreeVersions.{levels}

-- A position of the tree of this version: level 0 is the root, and the last one that of the segments; a
-- level has sixteen times the nodes of the level above it.
pub record IsPosition (v : TreeVersion) (p : Position) : Type 0 where
  pub level : p.level ≤ levels v
  pub index : p.index < 16 ^ p.level

-- one byte of the level, four of the index
abbrev pub position_spelling : Position → List ℕ
position_spelling p = p.level ∷ [] ++ big_bytes 4 p.index

-- a level of the tree of this version
unfoldable pub level_at : TreeVersion → List ℕ → ℕ → Result (ℕ × ℕ) FieldError
level_at v bytes at = do
  level ← byte_at bytes at
  if nat_le level.0 (levels v) then Ok level else Err (Rule at)

-- an index of this level
unfoldable pub index_at : ℕ → List ℕ → ℕ → Result (ℕ × ℕ) FieldError
index_at level bytes at = do
  index ← number_at 4 bytes at
  if nat_lt index.0 (16 ^ level) then Ok index else Err (Rule at)

-- a position of the tree of this version
unfoldable pub position_at : TreeVersion → List ℕ → ℕ → Result (Position × ℕ) FieldError
position_at v bytes at = do
  level ← level_at v bytes at
  index ← index_at level.0 bytes level.1
  Ok (record { level = level.0; index = index.0 }, index.1)

-- a level and an index as they stand there, in range or not
unfoldable pub any_position_at : List ℕ → ℕ → Result (Position × ℕ) FieldError
any_position_at bytes at = do
  level ← byte_at bytes at
  index ← number_at 4 bytes level.1
  Ok (record { level = level.0; index = index.0 }, index.1)

-- whether two positions are one
abbrev pub same_position : Position → Position → Bool
same_position a b = a.level == b.level && a.index == b.index
