-- Rounds: which members have answered, and the state that follows.
use Rattle.std.specs.Prelude.{◌≡◌, ℕ, Bool, true, false, ◌==◌, ◌||◌, if◌then◌else◌, List, replicate}
use Rattle.ens_base.specs.PeerSet.{holds}
use Rattle.quorums.specs.Quorums.{is_quorum, has_every, voted, IsMember, HasEvery}
use Rattle.quorums.specs.declared.round.Round.{Round}
use Rattle.quorums.specs.declared.round.RoundState.{RoundState}
use Rattle.quorums.specs.declared.round.RoundState.TheVariants.{Open, Met, AllAnswered}

-- the votes after this peer's vote, which counts if it is a member of some view
pub record AreWith (views : List (List ℕ)) (peer : ℕ) (votes votes_now : List Bool) : Type 0 where
  pub member : IsMember views peer → (p : ℕ) → holds votes_now p ≡ (p == peer || holds votes p)
  pub other : ¬ IsMember views peer → votes_now ≡ votes

-- open without a quorum; all answered once every member of every view has voted; met in between
abbrev pub IsState : (ℕ → Bool) → List (List ℕ) → RoundState → Type 0
IsState votes views Open = is_quorum votes views ≡ false
IsState votes views Met = (is_quorum votes views ≡ true) × ¬ HasEvery votes views
IsState votes views AllAnswered = HasEvery votes views

-- the round with the answer of this peer
unfoldable pub answered : ℕ → Round → Round
answered peer round = record round { tally = record round.tally { votes = voted round.tally.views peer round.tally.votes } }

-- a round on these views, in which `me` has answered
unfoldable pub begun : List (List ℕ) → ℕ → Round
begun views me = answered me (record { tally = record { views = views; votes = replicate 32 false } })

-- the state of a round with these votes: open without a quorum, all answered once every member of
-- every view has voted, and met in between
abbrev pub state_of_votes : (ℕ → Bool) → List (List ℕ) → RoundState
state_of_votes votes views = if is_quorum votes views then (if has_every votes views then AllAnswered else Met) else Open

-- the state of a round
unfoldable pub state_of : Round → RoundState
state_of round = state_of_votes (holds round.tally.votes) round.tally.views
