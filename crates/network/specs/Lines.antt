-- Lines: for each sender and receiver, a queue of numbers of messages.
use Rattle.std.specs.Prelude.{◌≡◌, ◌<◌, ◌+◌, ◌*◌, ◌==◌, ℕ, Bool, true, false, List, [], ◌∷◌, if◌then◌else◌, slice_index_or, slice_set}
use Rattle.ens_base.specs.Lists.{is_in}
use Rattle.wire_frames.specs.declared.frame.Frame.{Frame}

-- the place of the line of this sender and receiver
abbrev pub line_place : ℕ → ℕ → ℕ
line_place from to = from * 32 + to

-- the place of the line of this message
abbrev pub line_of : Frame → ℕ
line_of f = line_place f.from f.to

-- the numbers in the line at this place, the prefix first
abbrev pub line : List (List ℕ) → ℕ → List ℕ
line lines place = slice_index_or lines place []

-- all numbers in the line are below this one
abbrev pub AreBelow : ℕ → List ℕ → Type 0
AreBelow bound ns = (n : ℕ) → is_in ns n ≡ true → n < bound

-- the numbers are in strictly ascending order
abbrev pub Ascends : List ℕ → Type 0
Ascends [] = Unit {0}
Ascends (n ∷ ns) = ((m : ℕ) → is_in ns m ≡ true → n < m) × Ascends ns

-- the message at the front of the line waits, if the line is not empty
abbrev pub FrontWaits : List Bool → List ℕ → Type 0
FrontWaits waits [] = Unit {0}
FrontWaits waits (n ∷ ns) = slice_index_or waits n false ≡ true

-- the line from its first message that waits
abbrev pub from_waiting : List Bool → List ℕ → List ℕ
from_waiting waits [] = []
from_waiting waits (n ∷ ns) = if slice_index_or waits n false then n ∷ ns else from_waiting waits ns

-- the flags when those of these numbers are cleared
abbrev pub cleared : List Bool → List ℕ → List Bool
cleared waits [] = waits
cleared waits (n ∷ ns) = cleared (slice_set waits n false) ns

-- this change is made to the line at this place, and none to the others
abbrev pub Changes : List (List ℕ) → List (List ℕ) → ℕ → (List ℕ → List ℕ) → Type 0
Changes old new place change = (p : ℕ) → line new p ≡ (if p == place then change (line old p) else line old p)
