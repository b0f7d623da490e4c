-- How far the sending of some frames came.
use Rattle.std.specs.Prelude.{◌≡◌, ◌≤◌, ℕ, List, [], ◌∷◌, ◌++◌, Option, Result, Ok, Err}
use Rattle.ens_base.specs.Causes.{Rose}
use Rattle.environment.specs.declared.errors.LinkError.{LinkError}
use Rattle.environment.specs.declared.errors.LinkError.TheVariants.{Failed}
use Rattle.peer_turns.specs.Going.{Grew}

-- of these frames a prefix was sent, and the one after it was not
pub record SentSome (old new : Option (List (ℕ × List ℕ))) (frames : List (ℕ × List ℕ)) : Type 0 where
  pub prefix : List (ℕ × List ℕ)
  pub unsent : ℕ × List ℕ
  pub rest : List (ℕ × List ℕ)
  pub all : frames ≡ prefix ++ unsent ∷ rest
  pub sent : Grew old new prefix

module _ {L : Type 0} (sent : L → Option (List (ℕ × List ℕ))) (given : L → Option (List (Option (List ℕ)))) (faults : L → ℕ) where
  -- the link sent these frames, one after another, and did nothing else
  pub record SentAll (frames : List (ℕ × List ℕ)) (old new : L) : Type 0 where
    pub sends : Grew (sent old) (sent new) frames
    pub looked : Grew (given old) (given new) []
    pub later : faults old ≤ faults new

  -- at this error the link had sent a prefix of these frames, and not the one after it; it failed only if
  -- its fault count rose
  pub record BrokeOff (error : LinkError) (frames : List (ℕ × List ℕ)) (old new : L) : Type 0 where
    pub sends : SentSome (sent old) (sent new) frames
    pub looked : Grew (given old) (given new) []
    pub later : faults old ≤ faults new
    pub cause : error ≡ Failed → Rose (faults old) (faults new)

  -- these frames were to be sent, in this order, and this is the result
  abbrev pub SendsInOrder : {T : Type 0} → List (ℕ × List ℕ) → L → L → Result T LinkError → Type 0
  SendsInOrder frames old new (Ok x) = SentAll frames old new
  SendsInOrder frames old new (Err e) = BrokeOff e frames old new
