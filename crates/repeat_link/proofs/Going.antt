-- What a queue lets go never waits again, and each number is of one frame.
use Rattle.std.proofs.Common.{◌≡◌, ◌∙◌, ◌+◌, ◌-◌, ◌^◌, ◌<◌, ◌≤◌, ◌==◌, ◌++◌, ◌⊎◌, inl, inr, ℕ, Bool, true, false, not, List, [], ◌∷◌, refl, ap, arith, map, filter, if◌then◌else◌}
use Rattle.ens_base.specs.Lists.{◌∈◌, AreDistinct}
use Rattle.repeat_link.specs.Queues.{Queue, fits_in, latest, pushed, queued_at, oldest, is_due, marked}
use Rattle.repeat_link.specs.Received.{came}
use Rattle.repeat_link.specs.Runs.{Step, Push, Acknowledge, Expire, Mark, Clear, after, run, numbers, entry, frames_from}
use Rattle.repeat_link.specs.declared.received.Received.{Received}
use Rattle.repeat_link.specs.declared.send_queue.Queued.{Queued}
use Rattle.repeat_link.specs.declared.send_queue.Timeouts.{Timeouts}

-- what is left was there
module _ {A : Type 0} (f : Queued → A) (a : A) where
  in_filter : (keep : Queued → Bool) (qs : List Queued) → a ∈ map f (filter keep qs) → a ∈ map f qs
  in_filter keep [] is = is
  in_filter keep (q ∷ qs) is = by (keep q) (in_filter keep qs) is
    where
      by : (b : Bool) → (a ∈ map f (filter keep qs) → a ∈ map f qs) → a ∈ map f (if b then q ∷ filter keep qs else filter keep qs) → a ∈ map f (q ∷ qs)
      by true later (inl here) = inl here
      by true later (inr there) = inr (later there)
      by false later is = inr (later is)

  in_latest : (qs : List Queued) → a ∈ map f (latest qs) → a ∈ map f qs
  in_latest [] is = is
  in_latest (q ∷ qs) is = by (fits_in 1024 1048576 (q ∷ qs)) (in_latest qs) is
    where
      by : (b : Bool) → (a ∈ map f (latest qs) → a ∈ map f qs) → a ∈ map f (if b then q ∷ qs else latest qs) → a ∈ map f (q ∷ qs)
      by true later is = is
      by false later is = inr (later is)

  in_appended : (qs : List Queued) (x : Queued) → a ∈ map f (qs ++ x ∷ []) → (a ∈ map f qs) ⊎ (a ≡ f x)
  in_appended [] x (inl here) = inr here
  in_appended [] x (inr there) = absurd there
  in_appended (q ∷ qs) x (inl here) = inl (inl here)
  in_appended (q ∷ qs) x (inr there) =
      elim (in_appended qs x there) [
        | inl old ↦ inl (inr old)
        | inr new ↦ inr new
      ]

  in_pushed : (q : Queue) (now : ℕ) (frame : List ℕ) → a ∈ map f (pushed now frame q).queued → (a ∈ map f q.queued) ⊎ (a ≡ f (queued_at q.next now frame))
  in_pushed q now frame is = by (q.next == 2 ^ 64 - 1) is
    where
      by : (b : Bool) → a ∈ map f (if b then q else record { next = q.next + 1; queued = latest (q.queued ++ queued_at q.next now frame ∷ []) }).queued → (a ∈ map f q.queued) ⊎ (a ≡ f (queued_at q.next now frame))
      by true is = inl is
      by false is = in_appended q.queued (queued_at q.next now frame) (in_latest (q.queued ++ queued_at q.next now frame ∷ []) is)

-- what is noted of a frame changes neither its number nor its bytes
same_entry : (first now : ℕ) (t : Timeouts) (x : Queued) → entry (marked first now t x) ≡ entry x
same_entry first now t x = by (is_due first now x) refl
  where
    by : (b : Bool) → is_due first now x ≡ b → entry (marked first now t x) ≡ entry x
    by true due = rw due refl
    by false late = rw late refl

in_marked : (first now : ℕ) (t : Timeouts) (qs : List Queued) → map entry (map (marked first now t) qs) ≡ map entry qs
in_marked first now t [] = refl
in_marked first now t (q ∷ qs) = ap (λ e. e ∷ map entry (map (marked first now t) qs)) (same_entry first now t q) ∙ ap (λ es. entry q ∷ es) (in_marked first now t qs)

numbers_marked : (first now : ℕ) (t : Timeouts) (qs : List Queued) → numbers (map (marked first now t) qs) ≡ numbers qs
numbers_marked first now t [] = refl
numbers_marked first now t (q ∷ qs) = ap (λ e. e.0 ∷ numbers (map (marked first now t) qs)) (same_entry first now t q) ∙ ap (λ ns. q.number ∷ ns) (numbers_marked first now t qs)

-- the next number never falls
next_rises : (q : Queue) (now : ℕ) (frame : List ℕ) (n : ℕ) → n < q.next → n < (pushed now frame q).next
next_rises q now frame n below = by (q.next == 2 ^ 64 - 1)
  where
    by : (b : Bool) → n < (if b then q else record { next = q.next + 1; queued = latest (q.queued ++ queued_at q.next now frame ∷ []) }).next
    by true = below
    by false = omega arith

gone_after : (q : Queue) (step : Step) (n : ℕ) → n < q.next → (n ∈ numbers q.queued → ⊥) → (n < (after q step).next) × (n ∈ numbers (after q step).queued → ⊥)
gone_after q (Push now frame) n below gone = (next_rises q now frame n below, λ is. none (in_pushed (λ x. x.number) n q now frame is))
  where
    none : (n ∈ numbers q.queued) ⊎ (n ≡ q.next) → ⊥
    none (inl old) = gone old
    none (inr new) = omega arith
gone_after q (Acknowledge r) n below gone = (below, λ is. gone (in_filter (λ x. x.number) n (λ x. not (came r x.number)) q.queued is))
gone_after q (Expire now life) n below gone = (below, λ is. gone (in_filter (λ x. x.number) n _ q.queued is))
gone_after q (Mark now t) n below gone = (below, λ is. gone (rw (numbers_marked (oldest q.queued) now t q.queued) at is))
gone_after q Clear n below gone = (below, λ is. is)

pub never_again : (q : Queue) (steps : List Step) (n : ℕ) → n < q.next → (n ∈ numbers q.queued → ⊥) → n ∈ numbers (run q steps).queued → ⊥
never_again q [] n below gone is = gone is
never_again q (step ∷ steps) n below gone is = let left = gone_after q step n below gone in never_again (after q step) steps n left.0 left.1 is

-- what is acknowledged does not wait
pub acknowledged_goes : (qs : List Queued) (r : Received) (n : ℕ) → came r n ≡ true → n ∈ numbers (filter (λ x. not (came r x.number)) qs) → ⊥
acknowledged_goes [] r n told is = is
acknowledged_goes (q ∷ qs) r n told is = by (came r q.number) refl (acknowledged_goes qs r n told) is
  where
    by : (b : Bool) → came r q.number ≡ b → (n ∈ numbers (filter (λ x. not (came r x.number)) qs) → ⊥) → n ∈ numbers (if not b then q ∷ filter (λ x. not (came r x.number)) qs else filter (λ x. not (came r x.number)) qs) → ⊥
    by true here later is = later is
    by false other later (inl here) = cc (other, told, here)
    by false other later (inr there) = later there

-- each frame that waits was pushed under its number
push_case : (q : Queue) (now : ℕ) (frame : List ℕ) (steps : List Step) (e : ℕ × List ℕ) → (e ∈ map entry (pushed now frame q).queued) ⊎ (e ∈ frames_from (pushed now frame q).next steps) → (e ∈ map entry q.queued) ⊎ (e ∈ frames_from q.next (Push now frame ∷ steps))
push_case q now frame steps e found = by (q.next == 2 ^ 64 - 1) found
  where
    more : Queue
    more = record { next = q.next + 1; queued = latest (q.queued ++ queued_at q.next now frame ∷ []) }

    by : (b : Bool) → (e ∈ map entry (if b then q else more).queued) ⊎ (e ∈ frames_from (if b then q else more).next steps) → (e ∈ map entry q.queued) ⊎ (e ∈ (if b then frames_from q.next steps else (q.next, frame) ∷ frames_from (q.next + 1) steps))
    by true found = found
    by false (inl waits) =
        elim (in_appended entry e q.queued (queued_at q.next now frame) (in_latest entry e (q.queued ++ queued_at q.next now frame ∷ []) waits)) [
          | inl old ↦ inl old
          | inr is ↦ inr (inl is)
        ]
    by false (inr later) = inr (inr later)

from_pushes : (q : Queue) (steps : List Step) (e : ℕ × List ℕ) → e ∈ map entry (run q steps).queued → (e ∈ map entry q.queued) ⊎ (e ∈ frames_from q.next steps)
from_pushes q [] e is = inl is
from_pushes q (Push now frame ∷ steps) e is = push_case q now frame steps e (from_pushes (pushed now frame q) steps e is)
from_pushes q (Acknowledge r ∷ steps) e is =
    elim (from_pushes (after q (Acknowledge r)) steps e is) [
      | inl waits ↦ inl (in_filter entry e (λ x. not (came r x.number)) q.queued waits)
      | inr later ↦ inr later
    ]
from_pushes q (Expire now life ∷ steps) e is =
    elim (from_pushes (after q (Expire now life)) steps e is) [
      | inl waits ↦ inl (in_filter entry e _ q.queued waits)
      | inr later ↦ inr later
    ]
from_pushes q (Mark now t ∷ steps) e is =
    elim (from_pushes (after q (Mark now t)) steps e is) [
      | inl waits ↦ inl (rw (in_marked (oldest q.queued) now t q.queued) at waits)
      | inr later ↦ inr later
    ]
from_pushes q (Clear ∷ steps) e is =
    elim (from_pushes (after q Clear) steps e is) [
      | inl waits ↦ absurd waits
      | inr later ↦ inr later
    ]

pub pushed_before : (steps : List Step) (e : ℕ × List ℕ) → e ∈ map entry (run (record { next = 1; queued = [] }) steps).queued → e ∈ frames_from 1 steps
pushed_before steps e is =
    elim (from_pushes (record { next = 1; queued = [] }) steps e is) [
      | inl none ↦ absurd none
      | inr found ↦ found
    ]

-- the numbers rise
from_on : (n : ℕ) (steps : List Step) (m : ℕ) → m ∈ map (λ e. e.0) (frames_from n steps) → n ≤ m
from_on n [] m is = absurd is
from_on n (Push now frame ∷ steps) m is = by (n == 2 ^ 64 - 1) (from_on n steps m) (from_on (n + 1) steps m) is
  where
    by : (b : Bool) → (m ∈ map (λ e. e.0) (frames_from n steps) → n ≤ m) → (m ∈ map (λ e. e.0) (frames_from (n + 1) steps) → n + 1 ≤ m) → m ∈ map (λ e. e.0) (if b then frames_from n steps else (n, frame) ∷ frames_from (n + 1) steps) → n ≤ m
    by true same later is = same is
    by false same later (inl here) = omega arith
    by false same later (inr there) = let above = later there in omega arith
from_on n (Acknowledge r ∷ steps) m is = from_on n steps m is
from_on n (Expire now life ∷ steps) m is = from_on n steps m is
from_on n (Mark now t ∷ steps) m is = from_on n steps m is
from_on n (Clear ∷ steps) m is = from_on n steps m is

pub one_frame_each : (n : ℕ) (steps : List Step) → AreDistinct (map (λ e. e.0) (frames_from n steps))
one_frame_each n [] = tt
one_frame_each n (Push now frame ∷ steps) = by (n == 2 ^ 64 - 1) (one_frame_each n steps) (one_frame_each (n + 1) steps)
  where
    by : (b : Bool) → AreDistinct (map (λ e. e.0) (frames_from n steps)) → AreDistinct (map (λ e. e.0) (frames_from (n + 1) steps)) → AreDistinct (map (λ e. e.0) (if b then frames_from n steps else (n, frame) ∷ frames_from (n + 1) steps))
    by true same later = same
    by false same later = ((λ is. let above = from_on (n + 1) steps n is in omega arith), later)
one_frame_each n (Acknowledge r ∷ steps) = one_frame_each n steps
one_frame_each n (Expire now life ∷ steps) = one_frame_each n steps
one_frame_each n (Mark now t ∷ steps) = one_frame_each n steps
one_frame_each n (Clear ∷ steps) = one_frame_each n steps
