-- Facts that an implementation may or may not know of itself.
use Rattle.std.specs.Prelude.{◌≡◌, ℕ, List, Option, None, Some, Vec}
use Rattle.std.specs.declared.alloc.Global.{Global}

-- what was known is unchanged, and still known
abbrev pub StaysTold : {A : Type 0} → Option A → Option A → Type 0
StaysTold None new = Unit {0}
StaysTold (Some x) new = new ≡ Some x

-- x is what was known
abbrev pub IsTold : {A : Type 0} → Option A → A → Type 0
IsTold None x = Unit {0}
IsTold (Some told) x = x ≡ told

-- the bytes of a vector, if there is a vector
abbrev pub bytes_of : Option (Vec ℕ Global) → Option (List ℕ)
bytes_of None = None
bytes_of (Some v) = Some v.items
