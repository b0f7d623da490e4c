-- The slots of a root ensemble, which are its keys, and the views that open them.
use Rattle.std.specs.Prelude.{ℕ, ◌/◌, ◌==◌, if◌then◌else◌, List, [], ◌∷◌, length, slice_index, Option, Some, None, Result, Ok, Err}
use Rattle.md5.specs.Md5.{md5}
use Rattle.fields.specs.Views.{view_at}
use Rattle.fields.specs.declared.field_error.FieldError.{FieldError}

-- the slot of a key: the first six bits of its MD5
abbrev pub slot_of : List ℕ → ℕ
slot_of key = slice_index (md5 key) 0 / 4

-- the key of a slot in the root: one byte
abbrev pub slot_key : ℕ → List ℕ
slot_key slot = slot ∷ []

-- a view that is read at the front of some bytes and ends with them
abbrev pub whole_view : ℕ → Result (List ℕ × ℕ) FieldError → Option (List ℕ)
whole_view size (Ok (view, end)) = if end == size then Some view else None
whole_view size (Err e) = None

-- the view that bytes spell, if they spell one
abbrev pub view_of_bytes : List ℕ → Option (List ℕ)
view_of_bytes bytes = whole_view (length bytes) (view_at bytes 0)
