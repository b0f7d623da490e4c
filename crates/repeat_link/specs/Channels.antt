-- What a process keeps of another one: the frames that wait for it, and which of its frames came.
use Rattle.std.specs.Prelude.{◌≡◌, ◌⊎◌, ◌-◌, ◌*◌, ◌^◌, ◌<◌, ◌==◌, ◌&&◌, ◌||◌, ℕ, Bool, false, not, min, nat_lt, nat_le, List, [], length, filter, map, Option, None, Some, slice_index_or, unwrap_or, if◌then◌else◌}
use Rattle.std.specs.List.{list_any}
use Rattle.repeat_link.specs.Parts.{Partial, part_count, part_at, with_part, whole}
use Rattle.repeat_link.specs.Queues.{Queue, round_trip_in, oldest, is_due, marked, pushed}
use Rattle.repeat_link.specs.Received.{came, is_old}
use Rattle.repeat_link.specs.RoundTrips.{smoothed, first_wait}
use Rattle.repeat_link.specs.declared.header.Header.{Header}
use Rattle.repeat_link.specs.declared.received.Received.{Received}
use Rattle.repeat_link.specs.declared.round_trip.RoundTrip.{RoundTrip}
use Rattle.repeat_link.specs.declared.send_queue.Timeouts.{Timeouts}

-- the frames that wait for the other process, the round trip to it, its run (0: not heard of), which of the
-- numbers of that run came, the parts that came of one frame, and since when an acknowledgement is owed
pub record Talk : Type 0 where
  pub queue : Queue
  pub trip : RoundTrip
  pub run : ℕ
  pub received : Received
  pub partial : Partial
  pub owed : Option ℕ

-- of a new run nothing came yet
abbrev pub none_received : Received
none_received = record { greatest = 0; bits = 0 }

abbrev pub no_parts : Partial
no_parts = record { number = 0; parts = [] }

-- what waits for a run goes with it
abbrev pub waiting_for_next : ℕ → Queue → Queue
waiting_for_next run q = if run == 0 then q else record q { queued = [] }

-- a greater run of the other process is heard of
abbrev pub met : ℕ → Talk → Talk
met run t = if nat_lt t.run run then record t { queue = waiting_for_next t.run t.queue; run = run; received = none_received; partial = no_parts } else t

-- a round trip was measured, or none
abbrev pub timed : Option ℕ → RoundTrip → RoundTrip
timed None trip = trip
timed (Some sample) trip = record { smoothed = Some (smoothed trip.smoothed sample) }

-- the other process tells which frames of this run came
abbrev pub acknowledged : ℕ → Received → Talk → Talk
acknowledged now r t = record t {
  queue = record t.queue { queued = filter (λ q. not (came r q.number)) t.queue.queued };
  trip = timed (round_trip_in r now t.queue.queued) t.trip;
}

-- a header of the other process came at a process of this run; those of its earlier runs are ignored
abbrev pub heard : ℕ → ℕ → Header → Talk → Talk
heard now own h t =
    if nat_lt h.run t.run then t
    else if h.known_run == own then acknowledged now h.received (met h.run t) else met h.run t

-- whether a frame of this run and number is not given any more
abbrev pub is_given : Talk → ℕ → ℕ → Bool
is_given t run number = nat_lt run t.run || (run == t.run && is_old t.received number)

-- whether a header is not of an earlier run, and tells of a frame
abbrev pub has_frame : Header → Talk → Bool
has_frame h t = not (nat_lt h.run t.run || h.number == 0)

-- an acknowledgement of the frame is owed too
abbrev pub noted : ℕ → ℕ → Header → Talk → Talk
noted now own h t = if has_frame h t then record (heard now own h t) { owed = Some (unwrap_or t.owed now) } else heard now own h t

-- whether the header is that of one part of several
abbrev pub has_place : Header → Bool
has_place h = nat_lt h.part h.parts && nat_le h.parts 64

-- the frame that a part completes
abbrev pub assembled : Header → List ℕ → Partial → Option (List ℕ)
assembled h part p = if h.parts == 1 then Some part else if has_place h then whole (with_part p h.number h.part h.parts part).parts else None

-- the frame that a part completes, if it is for this run and did not come
abbrev pub completed : ℕ → Header → List ℕ → Talk → Option (List ℕ)
completed own h part t = if (h.known_run == own || h.known_run == 0) && not (is_old t.received h.number) then assembled h part t.partial else None

-- the frame that a datagram completes
abbrev pub delivered : ℕ → Header → List ℕ → Talk → Option (List ℕ)
delivered own h part t = if has_frame h t then completed own h part (met h.run t) else None

-- The parts that came are parts of the frames that the other process sent: `frames` tells the frame of each run and
-- number.
pub record Holds (frames : ℕ → ℕ → List ℕ) (t : Talk) : Type 0 where
  pub count : (length t.partial.parts ≡ 0) ⊎ (length t.partial.parts ≡ part_count (frames t.run t.partial.number))
  pub parts : (place : ℕ) (part : List ℕ) → slice_index_or t.partial.parts place None ≡ Some part → part ≡ part_at place (frames t.run t.partial.number)

-- The header and what follows it are a part of one of these frames.
pub record IsPart (frames : ℕ → ℕ → List ℕ) (h : Header) (part : List ℕ) : Type 0 where
  pub place : h.part < h.parts
  pub count : h.parts ≡ part_count (frames h.run h.number)
  pub bytes : part ≡ part_at h.part (frames h.run h.number)

-- The datagram tells of no frame, or is a part of one of these.
abbrev pub IsGenuine : (ℕ → ℕ → List ℕ) → Header → List ℕ → Type 0
IsGenuine frames h part = (h.number ≡ 0) ⊎ IsPart frames h part

-- a header with what is known of the other process
abbrev pub headed : Header → Talk → Header
headed h t = record h { known_run = t.run; received = t.received }

-- whether an acknowledgement is owed for a millisecond
abbrev pub is_owed : ℕ → Option ℕ → Bool
is_owed now None = false
is_owed now (Some since) = nat_le 1000 (now - since)

-- the frames that have waited for 8 ticks are gone
abbrev pub expired : ℕ → ℕ → Talk → Talk
expired now tick t = record t { queue = record t.queue { queued = filter (λ q. nat_lt (now - q.since) (min (tick * 8) (2 ^ 64 - 1))) t.queue.queued } }

-- whether a frame is to be sent
abbrev pub has_due : ℕ → Queue → Bool
has_due now q = list_any (is_due (oldest q.queued) now) q.queued

-- how long acknowledgements are waited for
abbrev pub timeouts_of : ℕ → Talk → Timeouts
timeouts_of tick t = record { first = first_wait t.trip.smoothed tick; most = tick }

-- the frames that were due were sent, and the acknowledgement went with them
abbrev pub sent_due : ℕ → ℕ → Talk → Talk
sent_due now tick t = record t {
  queue = record t.queue { queued = map (marked (oldest t.queue.queued) now (timeouts_of tick t)) t.queue.queued };
  owed = None;
}

-- what was due was sent, frames or an acknowledgement
abbrev pub swept : ℕ → ℕ → Talk → Talk
swept now tick t =
    if has_due now t.queue then sent_due now tick t
    else if is_owed now t.owed then record t { owed = None } else t

-- a frame was let wait, and what was due was sent
abbrev pub posted : ℕ → ℕ → List ℕ → Talk → Talk
posted now tick frame t = swept now tick (expired now tick (record t { queue = pushed now frame t.queue }))
