-- Runs of a queue: what waits after calls in any order.
use Rattle.std.specs.Prelude.{◌+◌, ◌-◌, ◌^◌, ◌==◌, ℕ, not, nat_lt, List, [], ◌∷◌, map, filter, if◌then◌else◌}
use Rattle.repeat_link.specs.Queues.{Queue, pushed, oldest, marked}
use Rattle.repeat_link.specs.Received.{came}
use Rattle.repeat_link.specs.declared.received.Received.{Received}
use Rattle.repeat_link.specs.declared.send_queue.Queued.{Queued}
use Rattle.repeat_link.specs.declared.send_queue.Timeouts.{Timeouts}

-- a call of a queue
pub data Step : Type 0 where
  Push : (now : ℕ) (frame : List ℕ) → Step
  Acknowledge : (r : Received) → Step
  Expire : (now life : ℕ) → Step
  Mark : (now : ℕ) (t : Timeouts) → Step
  Clear : Step

-- the queue after a call
abbrev pub after : Queue → Step → Queue
after q (Push now frame) = pushed now frame q
after q (Acknowledge r) = record q { queued = filter (λ x. not (came r x.number)) q.queued }
after q (Expire now life) = record q { queued = filter (λ x. nat_lt (now - x.since) life) q.queued }
after q (Mark now t) = record q { queued = map (marked (oldest q.queued) now t) q.queued }
after q Clear = record q { queued = [] }

-- the queue after calls one after the other
abbrev pub run : Queue → List Step → Queue
run q [] = q
run q (step ∷ steps) = run (after q step) steps

-- the numbers that wait
abbrev pub numbers : List Queued → List ℕ
numbers qs = map (λ x. x.number) qs

-- a frame that waits, with its number
abbrev pub entry : Queued → ℕ × List ℕ
entry x = (x.number, x.frame)

-- each frame that is pushed, with its number, the first one being that given
abbrev pub frames_from : ℕ → List Step → List (ℕ × List ℕ)
frames_from n [] = []
frames_from n (Push now frame ∷ steps) = if n == 2 ^ 64 - 1 then frames_from n steps else (n, frame) ∷ frames_from (n + 1) steps
frames_from n (step ∷ steps) = frames_from n steps
