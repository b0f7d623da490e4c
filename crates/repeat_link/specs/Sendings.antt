-- What goes over the link below: the datagrams of the frames that are due.
use Rattle.std.specs.Prelude.{◌≡◌, ℕ, zero, suc, nat_le, List, [], ◌∷◌, ◌++◌, map, Option, None, Some, if◌then◌else◌}
use Rattle.repeat_link.specs.Channels.{Talk, headed, is_owed, has_due}
use Rattle.repeat_link.specs.Headers.{header_bytes}
use Rattle.repeat_link.specs.Parts.{part_count, part_at}
use Rattle.repeat_link.specs.Queues.{oldest, is_due}
use Rattle.repeat_link.specs.declared.header.Header.{Header}
use Rattle.repeat_link.specs.declared.send_queue.Queued.{Queued}

-- one part of a frame, of so many
abbrev pub part_datagram : Header → ℕ → ℕ → List ℕ → List ℕ
part_datagram h count place frame = header_bytes (record h { part = place; parts = count }) ++ part_at place frame

-- the first n parts of a frame, of so many
abbrev pub first_parts : Header → ℕ → ℕ → List ℕ → List (List ℕ)
first_parts h count zero frame = []
first_parts h count (suc n) frame = first_parts h count n frame ++ part_datagram h count n frame ∷ []

-- all parts of a frame; one of more than 255 parts has none
abbrev pub datagrams_of : Header → List ℕ → List (List ℕ)
datagrams_of h frame = if nat_le (part_count frame) 255 then first_parts h (part_count frame) (part_count frame) frame else []

-- those of a frame that is due, under its number
abbrev pub due_of : Header → ℕ → ℕ → Queued → List (List ℕ)
due_of h first now q = if is_due first now q then datagrams_of (record h { number = q.number }) q.frame else []

-- those of all frames that are due, the oldest first
abbrev pub all_due : Header → ℕ → ℕ → List Queued → List (List ℕ)
all_due h first now [] = []
all_due h first now (q ∷ qs) = due_of h first now q ++ all_due h first now qs

-- the datagrams that a channel sends now, under this header: the frames that are due, or an acknowledgement alone
abbrev pub datagrams_now : ℕ → Header → Talk → List (List ℕ)
datagrams_now now h t =
    if has_due now t.queue then all_due (headed h t) (oldest t.queue.queued) now t.queue.queued
    else if is_owed now t.owed then (header_bytes (headed h t) ++ []) ∷ [] else []

-- these datagrams were sent to a number, where the link tells what was sent
abbrev pub SentTo : Option (List (ℕ × List ℕ)) → Option (List (ℕ × List ℕ)) → ℕ → List (List ℕ) → Type 0
SentTo None new to datagrams = Unit {0}
SentTo (Some sent) new to datagrams = new ≡ Some (sent ++ map (λ d. (to, d)) datagrams)
