-- The records of a payload: what a record is in one byte, the length of its name in one and of its content in four,
-- the name and the content.
use Rattle.std.specs.Prelude.{ℕ, ◌+◌, List, [], ◌∷◌, ◌++◌, length, Option, Some, None, ◌==◌, nat_le, if◌then◌else◌}
use Rattle.std.specs.Int.{w32, from_be_bytes, to_be_bytes}
use Rattle.commit_frames.specs.declared.record.RecordKind.{RecordKind}
use Rattle.commit_frames.specs.declared.record.RecordKind.TheVariants.{Node, Top, Object, Fact, Host}
use Rattle.commit_frames.specs.declared.record.Shape.{Shape}

abbrev pub kind_byte : RecordKind → ℕ
kind_byte Node = 1
kind_byte Top = 2
kind_byte Object = 3
kind_byte Fact = 4
kind_byte Host = 5

abbrev pub kind_in : ℕ → Option RecordKind
kind_in byte = if byte == 1 then Some Node else (if byte == 2 then Some Top else (if byte == 3 then Some Object else (if byte == 4 then Some Fact else (if byte == 5 then Some Host else None))))

abbrev pub record_bytes : RecordKind → (name content : List ℕ) → List ℕ
record_bytes kind name content = kind_byte kind ∷ length name ∷ (to_be_bytes w32 (length content) ++ (name ++ content))

-- the record of these lengths, if the bytes after them hold it
abbrev pub shape_with : Option RecordKind → (name content : ℕ) → List ℕ → Option Shape
shape_with None name content rest = None
shape_with (Some kind) name content rest = if nat_le (name + content) (length rest) then Some (record { kind = kind; name = name; content = content }) else None

-- the record at the front of these bytes, if there is one
abbrev pub shape_in : List ℕ → Option Shape
shape_in (kind ∷ name ∷ a ∷ b ∷ c ∷ d ∷ rest) = shape_with (kind_in kind) name (from_be_bytes w32 (a ∷ b ∷ c ∷ d ∷ [])) rest
shape_in short = None
