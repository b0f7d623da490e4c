-- The peers that answered in a round.
use Rattle.std.specs.Prelude.{replicate, slice_set}
use Rattle.std.proofs.Common.{◌≡◌, ℕ, Bool, true, false, ◌==◌, ◌||◌, if◌then◌else◌, eqb-true, List, arith, refl, sym, ◌∙◌, subst}
use Rattle.std.proofs.lemmas.Bool.{eqb-false, false≢true}
use Rattle.std.proofs.lemmas.Bool.Decides.{nat_tests}
use Rattle.std.proofs.lemmas.List.{get_or-set_other}
use Rattle.ens_base.specs.PeerSet.{holds}
use Rattle.ens_base.proofs.Tests.{itself}
use Rattle.quorums.specs.Quorums.{is_quorum, is_member, has_every}
use Rattle.quorums.proofs.Majorities.{quorum_more}
use Rattle.quorums.proofs.Sets.{no_flag}
use Rattle.quorums.specs.Rounds.{begun, answered as heard_from, state_of}
use Rattle.quorums.specs.declared.round.Round.{Round}
use Rattle.quorums.specs.declared.round.RoundState.TheVariants.{Open, Met, AllAnswered}

pub set_then : (P : ℕ → Type 0) (peer : ℕ) (votes : List Bool) → P peer → ((q : ℕ) → holds votes q ≡ true → P q) → (q : ℕ) → holds (slice_set votes peer true) q ≡ true → P q
set_then P peer votes here old q h = by_same (peer == q) refl
  where
    by_same : (b : Bool) → (peer == q) ≡ b → P q
    by_same true e = subst P (eqb-true peer q e) here
    by_same false e = old q (sym (get_or-set_other votes peer q true false (λ s. eqb-false peer q e (sym s))) ∙ h)

-- what holds of a peer and of all that answered before holds of all that have answered
answered_then : (P : ℕ → Type 0) (round : Round) (from : ℕ) → P from → ((q : ℕ) → holds round.tally.votes q ≡ true → P q) → (q : ℕ) → holds (heard_from from round).tally.votes q ≡ true → P q
unfolding heard_from
answered_then P round from here old q = by_member (is_member round.tally.views from)
  where
    by_member : (b : Bool) → holds (if b then slice_set round.tally.votes from true else round.tally.votes) q ≡ true → P q
    by_member true h = set_then P from round.tally.votes here old q h
    by_member false h = old q h

begun_then : (P : ℕ → Type 0) (views : List (List ℕ)) (me : ℕ) → P me → (q : ℕ) → holds (begun views me).tally.votes q ≡ true → P q
unfolding begun
begun_then P views me here = answered_then P (record { tally = record { views = views; votes = replicate 32 false } }) me here (λ q h. absurd (false≢true (sym (no_flag 32 q) ∙ h)))

pub answered_on : (round : Round) (from : ℕ) → (heard_from from round).tally.views ≡ round.tally.views
unfolding heard_from
answered_on round from = refl

pub begun_on : (views : List (List ℕ)) (me : ℕ) → (begun views me).tally.views ≡ views
unfolding begun heard_from
begun_on views me = refl

-- a quorum has answered in a round that is not open
closed_quorum : (round : Round) → (state_of round ≡ Open → ⊥) → is_quorum (holds round.tally.votes) round.tally.views ≡ true
unfolding state_of
closed_quorum round closed = by_quorum (is_quorum (holds round.tally.votes) round.tally.views) closed
  where
    by_quorum : (b : Bool) → ((if b then (if has_every (holds round.tally.votes) round.tally.views then AllAnswered else Met) else Open) ≡ Open → ⊥) → b ≡ true
    by_quorum true closed = refl
    by_quorum false closed = absurd (closed refl)

with_itself : (votes : List Bool) (p : ℕ) → (p == p || holds votes p) ≡ true
with_itself votes p = grind (arith, nat_tests)

with_one : (votes : List Bool) (from q : ℕ) → holds votes q ≡ true → (q == from || holds votes q) ≡ true
with_one votes from q h = grind (arith, nat_tests)

-- if a round is not open once it begins, the peer that begins it is a quorum
pub begun_quorum : (views : List (List ℕ)) (me : ℕ) → (state_of (begun views me) ≡ Open → ⊥) → is_quorum (λ p. p == me) views ≡ true
begun_quorum views me closed =
    quorum_more (holds (begun views me).tally.votes) (λ p. p == me) (begun_then (λ q. (q == me) ≡ true) views me (itself me)) views
    (subst (λ (vs : List (List ℕ)). is_quorum (holds (begun views me).tally.votes) vs ≡ true) (begun_on views me) (closed_quorum (begun views me) closed))

-- if a round is not open after an answer, its sender and those that answered before are a quorum
pub answered_quorum : (views : List (List ℕ)) (round : Round) (from : ℕ) → round.tally.views ≡ views → (state_of (heard_from from round) ≡ Open → ⊥) → is_quorum (λ p. p == from || holds round.tally.votes p) views ≡ true
answered_quorum views round from on closed =
    quorum_more (holds (heard_from from round).tally.votes) (λ p. p == from || holds round.tally.votes p)
    (answered_then (λ q. (q == from || holds round.tally.votes q) ≡ true) round from (with_itself round.tally.votes from) (with_one round.tally.votes from)) views
    (subst (λ (vs : List (List ℕ)). is_quorum (holds (heard_from from round).tally.votes) vs ≡ true) (answered_on round from ∙ on) (closed_quorum (heard_from from round) closed))
