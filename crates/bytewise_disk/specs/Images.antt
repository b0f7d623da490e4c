-- What a crash leaves of a disk that records its calls, if each byte of a write is old or new.
use Rattle.std.specs.Prelude.{◌≡◌, ℕ, ◌≤◌, List, [], ◌∷◌, length, take, reverse}
use Rattle.slot_disk.specs.Crash.{Torn, Cut}
use Rattle.slot_disk.specs.Steps.{Deed, Wrote, CutTo, Synced, seen_of}
use Rattle.bytewise_disk.specs.Mix.{Mixed}

-- what a crash may leave after these calls, given newest first
abbrev pub IsImage : List ℕ → List Deed → List ℕ → Type 0
IsImage first [] c = c ≡ first
IsImage first (Wrote at bytes ∷ earlier) c = (d : List ℕ) × IsImage first earlier d × Torn at (length bytes) d c × Mixed at bytes d c
IsImage first (CutTo len ∷ earlier) c = (d : List ℕ) × IsImage first earlier d × Cut len d c
IsImage first (Synced ∷ earlier) c = c ≡ seen_of first earlier

-- what a crash may leave after these calls, given oldest first
abbrev pub Leaves : List ℕ → List Deed → List ℕ → Type 0
Leaves first all c = IsImage first (reverse all) c

-- what a crash may have left at some moment from t on
abbrev pub LeftSince : List ℕ → List Deed → ℕ → List ℕ → Type 0
LeftSince first all t c = (k : ℕ) × (t ≤ k) × (k ≤ length all) × Leaves first (take k all) c
