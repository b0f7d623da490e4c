-- How a peer that serves goes on: from one state, with its stores and its link, to another.
use Rattle.std.specs.Prelude.{◌≡◌, ℕ, List, ◌++◌, Option, None, Some}
use Rattle.peer_state.specs.declared.state.State.{State}
use Rattle.step_plans.specs.Calls.{Call, AnswerOf}
use Rattle.step_plans.specs.declared.error.PeerError.{PeerError}
use Rattle.peer_turns.specs.Deeds.{Deed, Did}

-- a list that is told grew by these, and is still told
abbrev pub Grew : {A : Type 0} → Option (List A) → Option (List A) → List A → Type 0
Grew None new more = Unit {0}
Grew (Some old) new more = new ≡ Some (old ++ more)

-- a peer that serves: its state, its stores with the hasher, and its link
pub record Point (P L : Type 0) : Type 0 where
  pub state : State
  pub stores : P
  pub link : L

-- Between two points the looks gave this, these steps were taken, and these frames were sent.
pub record Went {P L : Type 0} (does : P → (call : Call) → AnswerOf call → P → Type 0) (refuses : P → Call → PeerError → P → Type 0)
    (sent : L → Option (List (ℕ × List ℕ))) (given : L → Option (List (Option (List ℕ)))) (me : ℕ) (a b : Point P L)
    (looks : List (Option (List ℕ))) (deeds : List Deed) (frames : List (ℕ × List ℕ)) : Type 0 where
  pub did : Did does refuses me a.state a.stores deeds b.state b.stores
  pub looked : Grew (given a.link) (given b.link) looks
  pub sends : Grew (sent a.link) (sent b.link) frames
