-- The numbers of the messages that wait, by the bytes of their frames.
use Rattle.std.specs.Prelude.{◌≡◌, ℕ, ◌+◌, ◌&&◌, Bool, List, [], ◌∷◌, Option, None, Some, if◌then◌else◌}
use Rattle.std.specs.BTreeMap.{get}
use Rattle.ens_base.specs.Lists.{bytes_cmp, same_bytes}
use Rattle.network.specs.Mail.{Mail}
use Rattle.wire_frames.specs.Frames.{frame_spelling}
use Rattle.wire_frames.specs.declared.frame.Frame.{Frame}
use Rattle.network.specs.declared.index.FrameIndex.{FrameIndex}

abbrev pub list_or_empty : Option (List ℕ) → List ℕ
list_or_empty None = []
list_or_empty (Some xs) = xs

-- the queue of these bytes in the index
abbrev pub queue_at : FrameIndex → List ℕ → List ℕ
queue_at index bytes = list_or_empty (get bytes_cmp index.queues bytes)

-- whether these bytes spell the frame
unfoldable pub is_spelled : List ℕ → Frame → Bool
is_spelled bytes f = same_bytes (frame_spelling f) bytes

-- the numbers of the messages that wait and pass a test, the oldest first; the first message has this number
abbrev pub numbers_from : (Frame → Bool) → ℕ → List Frame → List Bool → List ℕ
numbers_from test n [] waits = []
numbers_from test n (f ∷ sent) [] = []
numbers_from test n (f ∷ sent) (w ∷ waits) = if w && test f then n ∷ numbers_from test (n + 1) sent waits else numbers_from test (n + 1) sent waits

-- the numbers of the messages that wait and that these bytes spell, the oldest first; of all messages the
-- first has number 1
abbrev pub waiting_numbers : List ℕ → Mail → List ℕ
waiting_numbers bytes m = numbers_from (is_spelled bytes) 1 m.sent m.waits

-- the queue of any bytes has the numbers of the messages that wait with these bytes
abbrev pub Indexes : FrameIndex → Mail → Type 0
Indexes index m = (bytes : List ℕ) → queue_at index bytes ≡ waiting_numbers bytes m
