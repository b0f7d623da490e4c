-- The nodes of a peer of a schedule: a finite map from digests to bytes, and the digests that the
-- top record held.
use Rattle.std.specs.Prelude.{◌≡◌, ℕ, ◌-◌, List, [], ◌∷◌, ◌++◌, length, take, max, slice_get, Option, None, Some}
use Rattle.environment.specs.Failures.{left_by}
use Rattle.environment.specs.Maps.{Entries, value_at, with_value}
use Rattle.environment.specs.Stores.{NodeCall, Read, Write, Top, SetTop, NodeAnswer}
use Rattle.environment.specs.declared.errors.StoreError.{StoreError}
use Rattle.environment.specs.declared.errors.StoreError.TheVariants.{Failed, Memory}
use Rattle.environment.specs.declared.memory.failing_call.Leaves.{Leaves}
use Rattle.world_stores.specs.Faults.{spent}
use Rattle.world_stores.specs.declared.faults.Faults.{Faults}

-- the nodes, each under its digest; what each write of the top record that took effect wrote, the
-- oldest first; and the failures of the store
pub record Nodes : Type 0 where
  pub entries : Entries
  pub tops : List (List ℕ)
  pub faults : Faults

-- the digest in the top record, if there is a record
abbrev pub top_of : List (List ℕ) → Option (List ℕ)
top_of tops = slice_get tops (length tops - 1)

-- the failure that a call meets: a write of the top record meets the one that waits, and every
-- other call none
abbrev pub refusal : Nodes → NodeCall → Option Leaves
refusal s (Read digest) = None
refusal s (Write digest bytes) = None
refusal s Top = None
refusal s (SetTop digest) = s.faults.pending

-- the answer to a call
abbrev pub answer : Nodes → (call : NodeCall) → NodeAnswer call
answer s (Read digest) = value_at digest s.entries
answer s (Write digest bytes) = tt
answer s Top = top_of s.tops
answer s (SetTop digest) = tt

-- the store after a call that took effect
abbrev pub after : Nodes → NodeCall → Nodes
after s (Read digest) = s
after s (Write digest bytes) = record s { entries = with_value digest bytes s.entries }
after s Top = s
after s (SetTop digest) = record s { tops = s.tops ++ digest ∷ [] }

-- a call that meets no failure returns the answer, and takes effect
abbrev pub NodesDo : Nodes → (call : NodeCall) → NodeAnswer call → Nodes → Type 0
NodesDo s call a t = (refusal s call ≡ None) × (a ≡ answer s call) × (t ≡ after s call)

-- a call that meets a failure has its effect or none; out of memory, nothing changes
abbrev pub NodesRefuse : Nodes → NodeCall → StoreError → Nodes → Type 0
NodesRefuse s call Failed t = (leaves : Leaves) × (refusal s call ≡ Some leaves) × (t ≡ record (left_by leaves s (after s call)) { faults = spent s.faults })
NodesRefuse s call Memory t = t ≡ s

-- without the last n writes of the top record; the first write stays
abbrev pub reverted : ℕ → List (List ℕ) → List (List ℕ)
reverted n tops = take (max 1 (length tops - n)) tops
