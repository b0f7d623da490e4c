-- A link in memory that gives the frames sent over it, in their order.
use Rattle.std.specs.Prelude.{◌≡◌, ℕ, List, [], ◌∷◌, ◌++◌, Option, Vec, Result, Ok, Err, Contains, slice_get, count_by}
use Rattle.std.specs.Option.{option_map, is_some}
use Rattle.std.specs.declared.alloc.Global.{Global}
use Rattle.ens_base.specs.Causes.{counted}
use Rattle.environment.specs.Told.{bytes_of}
use Rattle.environment.specs.declared.errors.LinkError.{LinkError}
use Rattle.environment.specs.declared.errors.LinkError.TheVariants.{Failed, Memory}

-- the frames sent, each with the number it was sent to; the result of each look, a frame or nothing;
-- the numbers of the calls that fail, the number of calls so far, and the number of those that failed
pub record Queue : Type 0 where
  pub sent : List (ℕ × List ℕ)
  pub given : List (Option (List ℕ))
  pub failing : List ℕ
  pub calls : ℕ
  pub faults : ℕ

-- the frame of this number, the first being 0, if so many were sent
abbrev pub frame_at : ℕ → List (ℕ × List ℕ) → Option (List ℕ)
frame_at n sent = option_map (λ f. f.1) (slice_get sent n)

-- how many of the looks found a frame
abbrev pub found_in : List (Option (List ℕ)) → ℕ
found_in given = count_by is_some given

-- the next call is listed to fail
abbrev pub QueueFails : Queue → Type 0
QueueFails q = Contains q.failing (counted q.calls)

-- after a call
abbrev pub queue_called : Queue → Queue
queue_called q = record q { calls = counted q.calls }

-- after a call that failed
abbrev pub queue_failed : Queue → Queue
queue_failed q = record q { calls = counted q.calls; faults = counted q.faults }

-- a send fails exactly if it is listed; otherwise the frame comes after those sent before, unless
-- out of memory
abbrev pub QueueSent : {T : Type 0} → Queue → ℕ → List ℕ → Result T LinkError → Queue → Type 0
QueueSent q to frame (Ok x) r = ¬ QueueFails q × (r ≡ record (queue_called q) { sent = q.sent ++ (to, frame) ∷ [] })
QueueSent q to frame (Err Failed) r = QueueFails q × (r ≡ queue_failed q)
QueueSent q to frame (Err Memory) r = ¬ QueueFails q × (r ≡ queue_called q)

-- a look fails exactly if it is listed; otherwise it gives the first frame that was not given yet,
-- if there is one, unless out of memory
abbrev pub QueueGave : Queue → Result (Option (Vec ℕ Global)) LinkError → Queue → Type 0
QueueGave q (Ok o) r = ¬ QueueFails q × (bytes_of o ≡ frame_at (found_in q.given) q.sent) × (r ≡ record (queue_called q) { given = q.given ++ bytes_of o ∷ [] })
QueueGave q (Err Failed) r = QueueFails q × (r ≡ queue_failed q)
QueueGave q (Err Memory) r = ¬ QueueFails q × (r ≡ queue_called q)
