-- A link in memory: the results of its looks are given in advance, and sent frames are kept.
use Rattle.std.specs.Prelude.{◌≡◌, ℕ, ◌+◌, ◌-◌, List, [], ◌∷◌, ◌++◌, Bool, false, Option, None, Vec, Result, Ok, Err, Contains, length, take, replicate, slice_index_or}
use Rattle.std.specs.declared.alloc.Global.{Global}
use Rattle.ens_base.specs.Causes.{counted}
use Rattle.environment.specs.Told.{bytes_of}
use Rattle.environment.specs.declared.errors.LinkError.{LinkError}
use Rattle.environment.specs.declared.errors.LinkError.TheVariants.{Failed, Memory}

-- the result of each look, the number of looks answered, the frames sent with the number each was
-- sent to, the numbers of the calls that fail, the number of calls so far, and the number of those
-- that failed
pub record Scripted : Type 0 where
  pub looks : List (Option (List ℕ))
  pub looked : ℕ
  pub sent : List (ℕ × List ℕ)
  pub failing : List ℕ
  pub calls : ℕ
  pub faults : ℕ

-- what the look of this number finds, the first being 0; after the last of the list nothing waits
abbrev pub look_at : ℕ → List (Option (List ℕ)) → Option (List ℕ)
look_at n looks = slice_index_or looks n None

-- the results of the first n looks
abbrev pub first_looks : ℕ → List (Option (List ℕ)) → List (Option (List ℕ))
first_looks n looks = take n looks ++ replicate (n - length looks) None

-- the next call is listed to fail
abbrev pub FailsNext : Scripted → Type 0
FailsNext s = Contains s.failing (counted s.calls)

-- after a call
abbrev pub link_called : Scripted → Scripted
link_called s = record s { calls = counted s.calls }

-- after a call that failed
abbrev pub link_failed : Scripted → Scripted
link_failed s = record s { calls = counted s.calls; faults = counted s.faults }

-- a send fails exactly if it is listed; otherwise the frame is sent, unless out of memory
abbrev pub SendDid : {T : Type 0} → Scripted → ℕ → List ℕ → Result T LinkError → Scripted → Type 0
SendDid s to frame (Ok x) t = ¬ FailsNext s × (t ≡ record (link_called s) { sent = s.sent ++ (to, frame) ∷ [] })
SendDid s to frame (Err Failed) t = FailsNext s × (t ≡ link_failed s)
SendDid s to frame (Err Memory) t = ¬ FailsNext s × (t ≡ link_called s)

-- a look fails exactly if it is listed; otherwise it returns what it finds, unless out of memory
abbrev pub ReceiveDid : Scripted → Result (Option (Vec ℕ Global)) LinkError → Scripted → Type 0
ReceiveDid s (Ok o) t = ¬ FailsNext s × (bytes_of o ≡ look_at s.looked s.looks) × (t ≡ record (link_called s) { looked = s.looked + 1 })
ReceiveDid s (Err Failed) t = FailsNext s × (t ≡ link_failed s)
ReceiveDid s (Err Memory) t = ¬ FailsNext s × (t ≡ link_called s)

-- the answer of a ticker in memory to the call of this number, the first being 0; after the last of
-- the list no tick is due
abbrev pub answer_at : List Bool → ℕ → Bool
answer_at answers n = slice_index_or answers n false
