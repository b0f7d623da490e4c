-- Frames that wait to be acknowledged.
use Rattle.std.specs.Prelude.{◌+◌, ◌-◌, ◌*◌, ◌^◌, ◌&&◌, ◌==◌, ℕ, Bool, true, false, nat_le, nat_lt, min, List, [], ◌∷◌, ◌++◌, length, sum_by, Option, None, Some, if◌then◌else◌}
use Rattle.repeat_link.specs.Received.{came}
use Rattle.repeat_link.specs.declared.received.Received.{Received}
use Rattle.repeat_link.specs.declared.send_queue.Queued.{Queued}
use Rattle.repeat_link.specs.declared.send_queue.Sending.{Sending}
use Rattle.repeat_link.specs.declared.send_queue.Timeouts.{Timeouts}

-- the number that the next frame gets, and the frames that wait, the oldest first
pub record Queue : Type 0 where
  pub next : ℕ
  pub queued : List Queued

-- whether there are at most so many frames, with at most so many bytes
abbrev pub size_of : Queued → ℕ
size_of q = length q.frame

abbrev pub fits_in : ℕ → ℕ → List Queued → Bool
fits_in frames bytes qs = nat_le (length qs) frames && nat_le (sum_by size_of qs) bytes

-- what is left when the oldest go, until 1,024 frames and 2^20 bytes are left
abbrev pub latest : List Queued → List Queued
latest [] = []
latest (q ∷ qs) = if fits_in 1024 1048576 (q ∷ qs) then q ∷ qs else latest qs

-- a frame that was not sent yet
abbrev pub queued_at : ℕ → ℕ → List ℕ → Queued
queued_at number now frame = record { number = number; since = now; sent = None; frame = frame }

-- one more frame waits, unless the numbers are used up
abbrev pub pushed : ℕ → List ℕ → Queue → Queue
pushed now frame q = if q.next == 2 ^ 64 - 1 then q else record { next = q.next + 1; queued = latest (q.queued ++ queued_at q.next now frame ∷ []) }

-- the first round trip that was measured: of a frame that came and was sent once
abbrev pub measured : ℕ → Option Sending → Option ℕ → Option ℕ
measured now None later = later
measured now (Some s) later = if s.again then later else Some (now - s.at)

abbrev pub round_trip_in : Received → ℕ → List Queued → Option ℕ
round_trip_in r now [] = None
round_trip_in r now (q ∷ qs) = if came r q.number then measured now q.sent (round_trip_in r now qs) else round_trip_in r now qs

-- the oldest number that waits
abbrev pub oldest : List Queued → ℕ
oldest [] = 0
oldest (q ∷ qs) = q.number

-- whether a frame was not sent yet, or its acknowledgement is late
abbrev pub is_ready : ℕ → Option Sending → Bool
is_ready now None = true
is_ready now (Some s) = nat_le s.wait (now - s.at)

-- whether a frame is to be sent now: it is within the 64 numbers from the oldest on, and ready
abbrev pub is_due : ℕ → ℕ → Queued → Bool
is_due first now q = nat_lt (q.number - first) 64 && is_ready now q.sent

-- how a frame was sent now: each time its acknowledgement is waited for twice as long, up to the longest
abbrev pub next_sending : ℕ → Timeouts → Option Sending → Sending
next_sending now t None = record { at = now; wait = t.first; again = false }
next_sending now t (Some s) = record { at = now; wait = min (2 * s.wait) t.most; again = true }

abbrev pub marked : ℕ → ℕ → Timeouts → Queued → Queued
marked first now t q = if is_due first now q then record q { sent = Some (next_sending now t q.sent) } else q
