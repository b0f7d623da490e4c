-- Messages that wait.
use Rattle.std.specs.Prelude.{◌≡◌, ℕ, true, false, Some, slice_get, slice_index_or}
use Rattle.network.specs.Mail.{Mail}
use Rattle.wire_frames.specs.declared.frame.Frame.{Frame}

-- this message waits
pub record Waits (m : Mail) (f : Frame) : Type 0 where
  pub number : ℕ
  pub sent : slice_get m.sent number ≡ Some f
  pub waits : slice_index_or m.waits number false ≡ true

-- each waiting message is of this kind
abbrev pub AllWaiting : (Frame → Type 0) → Mail → Type 0
AllWaiting K m = (f : Frame) → Waits m f → K f
