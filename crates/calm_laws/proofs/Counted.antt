-- Once no message waits, each member is counted, and so they are a quorum.
use Rattle.std.proofs.Common.{◌≡◌, ◌<◌, ◌==◌, inl, refl, sym, subst, arith, ℕ, zero, suc, Bool, true, false, List, [], ◌∷◌, length, None}
use Rattle.std.specs.Prelude.{◌≢◌}
use Rattle.std.proofs.lemmas.Bool.{eqb-true, eqb-false}
use Rattle.std.proofs.lemmas.List.FromFn.{get_or-map-range_with_len}
use Rattle.ens_base.specs.Lists.{◌∈◌}
use Rattle.ens_base.specs.PeerSet.{holds}
use Rattle.ens_base.specs.View.{IsPeer}
use Rattle.quorums.proofs.Majorities.{majority_more_on, majority_of_quorum, quorum_of_all}
use Rattle.quorums.specs.Members.{those}
use Rattle.quorums.specs.Quorums.{is_quorum}
use Rattle.network.specs.Mail.{Mail, oldest, is_among}
use Rattle.calm_laws.proofs.UnderWay.{Round, IsUnderWay}
use Rattle.calm_laws.proofs.Rounds.{ends}

-- the set of all peers has each peer
pub everyone_has : (q : ℕ) → IsPeer q → holds (those (λ p. true)) q ≡ true
everyone_has zero peer = absurd (omega (arith, peer.0))
everyone_has (suc k) peer = get_or-map-range_with_len (λ p. true) 1 31 k (suc k) false (omega (arith, peer.1)) (omega arith)

-- all members are a quorum
pub all_counted : (votes : ℕ → Bool) (view : List ℕ) → 0 < length view → ((q : ℕ) → q ∈ view → votes q ≡ true) → is_quorum votes (view ∷ []) ≡ true
all_counted votes view filled all =
    let most = majority_of_quorum (λ q. true) (view ∷ []) view (inl refl) (quorum_of_all (λ q. true) (λ q. refl) view filled) in
    rw (majority_more_on (λ q. true) votes view (λ q is yes. all q is) most) refl

-- the leader has counted itself, and each other member is counted or under way
pub record AreUnderWay (r : Round) (ready : ℕ → Bool) (m : Mail) (votes : ℕ → Bool) (view : List ℕ) : Type 0 where
  pub leader : votes r.leader ≡ true
  pub others : (q : ℕ) → q ∈ view → q ≢ r.leader → IsUnderWay r ready m votes q

-- where no message waits, a round has a quorum
pub rounds_end : (r : Round) (ready : ℕ → Bool) (m : Mail) (votes : ℕ → Bool) (view : List ℕ) → 0 < length view → ((q : ℕ) → q ∈ view → IsPeer q) → IsPeer r.leader → oldest (is_among (those (λ p. true))) m ≡ None → AreUnderWay r ready m votes view → is_quorum votes (view ∷ []) ≡ true
rounds_end r ready m votes view filled peers leads none way = all_counted votes view filled (λ q is. by q is (q == r.leader) refl) where
  by : (q : ℕ) → q ∈ view → (b : Bool) → (q == r.leader) ≡ b → votes q ≡ true
  by q is true same = subst (λ k. votes k ≡ true) (sym (eqb-true q r.leader same)) way.leader
  by q is false other = ends r ready (those (λ p. true)) m votes q none (everyone_has r.leader leads) (everyone_has q (peers q is)) (way.others q is (eqb-false q r.leader other))
