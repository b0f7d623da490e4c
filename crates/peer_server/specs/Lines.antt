-- A link, and what a peer put out that the link was not given yet.
use Rattle.std.specs.Prelude.{ℕ, List, [], ◌∷◌, ◌++◌, Option, None, Some}
use Rattle.step_plans.specs.Outboxes.{out_of}
use Rattle.step_plans.specs.declared.outbox.Outbox.{Outbox}
use Rattle.peer_turns.specs.Deeds.{frames_of}

-- a link, and what some steps put out, the oldest first
pub record Line (L : Type 0) : Type 0 where
  pub link : L
  pub unsent : List Outbox

-- the frames in which that is to be sent
abbrev pub frames_waiting : ℕ → List Outbox → List (ℕ × List ℕ)
frames_waiting me [] = []
frames_waiting me (out ∷ outs) = frames_of me (out_of out) ++ frames_waiting me outs

-- a list that is told, with these at its end
abbrev pub grown : {A : Type 0} → Option (List A) → List A → Option (List A)
grown None more = None
grown (Some old) more = Some (old ++ more)

-- the frames that were sent, and then those that wait; and what the looks gave
abbrev pub posted : {L : Type 0} → (L → Option (List (ℕ × List ℕ))) → ℕ → Line L → Option (List (ℕ × List ℕ))
posted sent me line = grown (sent line.link) (frames_waiting me line.unsent)

abbrev pub looked : {L : Type 0} → (L → Option (List (Option (List ℕ)))) → Line L → Option (List (Option (List ℕ)))
looked given line = given line.link
