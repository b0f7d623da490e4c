-- How a network represents the waiting messages by flags and lines.
use Rattle.std.specs.Prelude.{◌≡◌, ◌<◌, ◌≤◌, ℕ, Bool, true, false, List, All, Some, length, slice_get, slice_index_or}
use Rattle.ens_base.specs.Lists.{is_in}
use Rattle.std.specs.Option.{option_map}
use Rattle.wire_frames.specs.declared.frame.Frame.{Frame}
use Rattle.network.specs.Mail.{Mail, MayBeSent, IsMail}
use Rattle.network.specs.Lines.{line_of, line, Ascends, FrontWaits}

-- the mail of these messages and flags
abbrev pub mail_in : List Frame → List Bool → Mail
mail_in sent waits = record { sent = sent; waits = waits }

-- the sender and the receiver are below this number
abbrev pub IsBelow : ℕ → Frame → Type 0
IsBelow bound f = (f.from < bound) × (f.to < bound)

-- the lines have the waiting messages: each line has only numbers of its own messages, in ascending
-- order, and all of those that wait, and the message at its prefix waits
pub record AreInLine (sent : List Frame) (waits : List Bool) (lines : List (List ℕ)) : Type 0 where
  pub own : (place n : ℕ) → is_in (line lines place) n ≡ true → option_map line_of (slice_get sent n) ≡ Some place
  pub held : (n : ℕ) (f : Frame) → slice_get sent n ≡ Some f → slice_index_or waits n false ≡ true → is_in (line lines (line_of f)) n ≡ true
  pub ascending : (place : ℕ) → Ascends (line lines place)
  pub prefix : (place : ℕ) → FrontWaits waits (line lines place)

-- the same, as one word
unfoldable pub IsQueued : List Frame → List Bool → List (List ℕ) → Type 0
IsQueued sent waits lines = AreInLine sent waits lines

-- no message below this number waits
pub record AreSettled (waits : List Bool) (first : ℕ) : Type 0 where
  pub within : first ≤ length waits
  pub none : (n : ℕ) → n < first → slice_index_or waits n false ≡ false

-- the invariant: every message may be sent and has a flag, its sender and receiver are below the
-- bound, the waiting messages are in the lines, and none of them is below the first
pub record IsKept (sent : List Frame) (waits : List Bool) (lines : List (List ℕ)) (bound first : ℕ) : Type 0 where
  pub may : All MayBeSent sent
  pub below : All (IsBelow bound) sent
  pub few : bound ≤ 32
  pub mail : IsMail (mail_in sent waits)
  pub queued : IsQueued sent waits lines
  pub settled : AreSettled waits first
