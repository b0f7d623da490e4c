-- The peers that answered in a round, and messages to all members.
use Rattle.std.specs.Prelude.{All, replicate, slice_set}
use Rattle.std.proofs.Common.{◌≡◌, ℕ, zero, suc, ◌+◌, Bool, true, false, if◌then◌else◌, List, [], ◌∷◌, refl, sym, ◌∙◌}
use Rattle.std.proofs.lemmas.Bool.{false≢true}
use Rattle.std.proofs.lemmas.List.Elements.{All-nil, All-cons, All-append}
use Rattle.protocol_laws.specs.Ledger.{put}
use Rattle.ens_base.specs.PeerSet.{holds}
use Rattle.quorums.specs.Quorums.{is_member, is_quorum, has_every}
use Rattle.quorums.proofs.Sets.{no_flag}
use Rattle.quorums.specs.Rounds.{answered, begun, state_of}
use Rattle.quorums.specs.declared.round.Round.{Round}
use Rattle.quorums.specs.declared.round.RoundState.{RoundState}
use Rattle.quorums.specs.declared.round.RoundState.TheVariants.{Open, Met, AllAnswered}
use Rattle.leader_output.specs.Sends.{sent_up_to}
use Rattle.leader_output.specs.declared.out.Outgoing.{Outgoing}
use Rattle.wire_frames.specs.declared.message.Message.{Message}
use Rattle.protocol_laws.specs.Protocol.{State}
use Rattle.role_laws.specs.Tables.{Ghosts}
use Rattle.leader_laws.proofs.Votes.{set_then}
use Rattle.leader_refinement.specs.Seen.{voters}
use Rattle.leader_refinement.specs.Follows.{SendSays, SentSays}
use Rattle.protocol_laws.proofs.Maps.{put_here}
use Rattle.protocol_laws.proofs.Descent.{put_stays}

-- what holds of a peer and of all that answered before holds of all that have answered
pub answered_then : (P : ℕ → Type 0) (round : Round) (from : ℕ) → P from → ((q : ℕ) → voters round q ≡ true → P q) → (q : ℕ) → voters (answered from round) q ≡ true → P q
unfolding answered
answered_then P round from here old q = by_member (is_member round.tally.views from)
  where
    by_member : (b : Bool) → holds (if b then slice_set round.tally.votes from true else round.tally.votes) q ≡ true → P q
    by_member true h = set_then P from round.tally.votes here old q h
    by_member false h = old q h

pub begun_then : (P : ℕ → Type 0) (views : List (List ℕ)) (me : ℕ) → P me → (q : ℕ) → voters (begun views me) q ≡ true → P q
unfolding begun
begun_then P views me here = answered_then P (record { tally = record { views = views; votes = replicate 32 false } }) me here (λ q h. absurd (false≢true (sym (no_flag 32 q) ∙ h)))

-- a reply counts at most for the peer that sent it
pub answered_fewer : (round : Round) (from : ℕ) (q : ℕ) → voters (answered from round) q ≡ true → put (voters round) from true q ≡ true
answered_fewer round from = answered_then (λ q. put (voters round) from true q ≡ true) round from (put_here (voters round) from true) (λ q h. put_stays (voters round) from q h)

pub begun_fewer : (views : List (List ℕ)) (me : ℕ) (q : ℕ) → voters (begun views me) q ≡ true → put (λ p. false) me true q ≡ true
begun_fewer views me = begun_then (λ q. put (λ p. false) me true q ≡ true) views me (put_here (λ p. false) me true)

-- the round is no longer open
abbrev pub IsClosed : RoundState → Type 0
IsClosed Open = ⊥
IsClosed state = Unit {0}

-- then a quorum has answered
pub closed_quorum : (round : Round) → IsClosed (state_of round) → is_quorum (voters round) round.tally.views ≡ true
unfolding state_of
closed_quorum round closed = by_quorum (is_quorum (holds round.tally.votes) round.tally.views) closed
  where
    by_quorum : (b : Bool) → IsClosed (if b then (if has_every (holds round.tally.votes) round.tally.views then AllAnswered else Met) else Open) → b ≡ true
    by_quorum true closed = refl
    by_quorum false closed = absurd closed

-- a message to each member says what it says
pub sent_say : (g : Ghosts) (s : State) (test : ℕ → Bool) (message : Message) → SendSays g s message → (n : ℕ) → All (SentSays g s) (sent_up_to test message n)
unfolding sent_up_to
sent_say g s test message says zero = All-nil (SentSays g s)
sent_say g s test message says (suc n) = All-append (SentSays g s) (sent_up_to test message n) (if test (n + 1) then sent ∷ [] else []) (sent_say g s test message says n) (by_test (test (n + 1)))
  where
    sent : Outgoing
    sent = record { to = n + 1; message = message }

    by_test : (b : Bool) → All (SentSays g s) (if b then sent ∷ [] else [])
    by_test true = All-cons (SentSays g s) sent [] says (All-nil (SentSays g s))
    by_test false = All-nil (SentSays g s)
