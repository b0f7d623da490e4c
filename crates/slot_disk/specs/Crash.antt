-- What the calls of a disk do to its bytes, and what a crash may leave between two syncs.
use Rattle.std.specs.Prelude.{◌≡◌, ◌⊎◌, ℕ, ◌+◌, ◌-◌, ◌≤◌, min, max, List, [], ◌∷◌, ◌++◌, length, take, drop, replicate, Option, None, Some, Result, Ok, Err}

-- the file with these bytes laid over it at this place; a gap past the end is filled with zeros
abbrev pub overlaid : List ℕ → ℕ → List ℕ → List ℕ
overlaid old at bytes = (take at old ++ replicate (at - length old) 0) ++ bytes ++ drop (at + length bytes) old

-- the file after these bytes were written at this place: a write of no bytes changes nothing
abbrev pub written : List ℕ → ℕ → List ℕ → List ℕ
written old at [] = old
written old at (byte ∷ bytes) = overlaid old at (byte ∷ bytes)

-- after a crash during or after a write of n bytes: any bytes in the range and past the old end,
-- and the old bytes elsewhere; a write of no bytes leaves the file
pub record Torn (at n : ℕ) (old new : List ℕ) : Type 0 where
  pub before : take (min at (length old)) new ≡ take (min at (length old)) old
  pub after : drop (at + n) new ≡ drop (at + n) old
  pub no_shorter : length old ≤ length new
  pub no_longer : length new ≤ max (length old) (at + n)
  pub nothing : n ≡ 0 → new ≡ old

-- after a crash during or after a cut to n bytes: a prefix of the file, not shorter than the cut one
pub record Cut (n : ℕ) (old new : List ℕ) : Type 0 where
  pub no_shorter : min n (length old) ≤ length new
  pub prefix : take (length new) old ≡ new

-- each new outcome of a crash is an old outcome followed by this step
abbrev pub Follows : (List ℕ → List ℕ → Type 0) → (List ℕ → Type 0) → (List ℕ → Type 0) → Type 0
Follows step old new = (c : List ℕ) → new c → (d : List ℕ) × old d × step d c

-- a crash leaves exactly this file
abbrev pub Only : List ℕ → (List ℕ → Type 0) → Type 0
Only file outcomes = (c : List ℕ) → outcomes c → c ≡ file

-- Time goes on: what a crash since t may have left is what it may have left before, or what a crash
-- may leave now.
pub record Elapses (before now : ℕ) (past since : ℕ → List ℕ → Type 0) (may_leave : List ℕ → Type 0) : Type 0 where
  pub later : before ≤ now
  pub nothing_else : (t : ℕ) (c : List ℕ) → t ≤ before → since t c → past t c ⊎ may_leave c
  pub keeps : (t : ℕ) (c : List ℕ) → t ≤ before → past t c → since t c

-- A crash at any moment since old leaves a file with property P.
pub record LeavesOnly {D : Type 0} (moment : D → ℕ) (left_since : D → ℕ → List ℕ → Type 0) (old new : D) (P : List ℕ → Type 0) : Type 0 where
  pub later : moment old ≤ moment new
  pub each : (c : List ℕ) → left_since new (moment old) c → P c
  -- the same for a run that began at an earlier moment t
  pub before : (t : ℕ) (c : List ℕ) → t ≤ moment old → left_since new t c → left_since old t c ⊎ P c

-- the bytes, if known, have property P
abbrev pub Told : Option (List ℕ) → (List ℕ → Type 0) → Type 0
Told None P = Unit {0}
Told (Some bytes) P = P bytes

-- known bytes are unchanged, and still known
abbrev pub Stay : Option (List ℕ) → Option (List ℕ) → Type 0
Stay old new = Told old (λ bytes. new ≡ Some bytes)

-- a read returns this file, and a crash leaves exactly this file
pub record IsOn {D : Type 0} (seen : D → Option (List ℕ)) (may_leave : D → List ℕ → Type 0) (disk : D) (file : List ℕ) : Type 0 where
  pub told : seen disk ≡ Some file
  pub only : Only file (may_leave disk)

-- a read returns a file with property P
abbrev pub SeenIn : {D : Type 0} → (D → Option (List ℕ)) → D → (List ℕ → Type 0) → Type 0
SeenIn seen disk P = (file : List ℕ) × (seen disk ≡ Some file) × P file

-- syncs and reads leave the file unchanged; if they failed, a read returns one of the files that a
-- crash might have left before
abbrev pub StaysSeen : {D T E : Type 0} → (D → Option (List ℕ)) → (D → List ℕ → Type 0) → D → D → Result T E → Type 0
StaysSeen seen may_leave old new (Ok x) = Stay (seen old) (seen new)
StaysSeen seen may_leave old new (Err e) = Told (seen old) (λ bytes. SeenIn seen new (may_leave old))
