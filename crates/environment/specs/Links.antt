-- Sent frames, looks and ticks: what is known of links and tickers.
use Rattle.std.specs.Prelude.{◌≡◌, ◌≤◌, ℕ, ◌+◌, List, [], ◌∷◌, ◌++◌, Bool, Option, None, Some, Vec, Result, Ok, Err}
use Rattle.std.specs.declared.alloc.Global.{Global}
use Rattle.ens_base.specs.Causes.{Rose}
use Rattle.environment.specs.Told.{bytes_of}
use Rattle.environment.specs.declared.errors.LinkError.{LinkError}
use Rattle.environment.specs.declared.errors.LinkError.TheVariants.{Failed, Memory}

-- the fault count never falls; a link returns `Failed` only if the count rose, and running out of
-- memory leaves it unchanged
abbrev pub LinkCounts : {T : Type 0} → ℕ → ℕ → Result T LinkError → Type 0
LinkCounts before now (Ok x) = before ≤ now
LinkCounts before now (Err Failed) = (before ≤ now) × Rose before now
LinkCounts before now (Err Memory) = now ≡ before

-- the frames sent, each with the number it was sent to: on success this frame is appended, on an
-- error nothing is
abbrev pub Sends : {T : Type 0} → Option (List (ℕ × List ℕ)) → Option (List (ℕ × List ℕ)) → ℕ → List ℕ → Result T LinkError → Type 0
Sends None new to frame result = Unit {0}
Sends (Some sent) new to frame (Ok x) = new ≡ Some (sent ++ (to, frame) ∷ [])
Sends (Some sent) new to frame (Err e) = new ≡ Some sent

-- the results of the looks so far: on success this result is appended, on an error nothing is
abbrev pub Looks : Option (List (Option (List ℕ))) → Option (List (Option (List ℕ))) → Result (Option (Vec ℕ Global)) LinkError → Type 0
Looks None new result = Unit {0}
Looks (Some given) new (Ok o) = new ≡ Some (given ++ bytes_of o ∷ [])
Looks (Some given) new (Err e) = new ≡ Some given

-- the answer is the first of those to come, and the others are still to come
abbrev pub AnswersNext : Option (ℕ → Bool) → Option (ℕ → Bool) → Bool → Type 0
AnswersNext None new answer = Unit {0}
AnswersNext (Some coming) None answer = ⊥
AnswersNext (Some coming) (Some rest) answer = (answer ≡ coming 0) × ((n : ℕ) → rest n ≡ coming (n + 1))
