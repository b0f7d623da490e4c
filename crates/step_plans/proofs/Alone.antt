-- A message to one peer.
use Rattle.std.proofs.Common.{◌≡◌, ◌≢◌, ◌<◌, ◌≤◌, ◌+◌, ℕ, zero, suc, Bool, true, false, [], ◌∷◌, refl, ◌∙◌, inl, inr, ◌⊎◌, arith}
use Rattle.std.proofs.lemmas.Bool.{cases_order}
use Rattle.std.proofs.lemmas.List.{get_or-set_same, get_or-set_other, get_or-replicate}
use Rattle.ens_base.specs.PeerSet.{holds}
use Rattle.ens_base.specs.View.{IsPeer}
use Rattle.phase_rows.specs.Peers.{alone, nobody}
use Rattle.phase_rows.specs.WireFrames.{Message}
use Rattle.step_plans.specs.Sends.{posted}

pub is_alone : (p : ℕ) → p < 32 → holds (alone p) p ≡ true
is_alone p below = get_or-set_same nobody p true false below

pub no_other : (p q : ℕ) → q < 32 → q ≢ p → holds (alone p) q ≡ false
no_other p q below other = get_or-set_other nobody p q true false other ∙ get_or-replicate 32 q false false below

-- nothing is sent below the peer
none_before : (test : ℕ → Bool) (word : ℕ → Message) (n : ℕ) → ((q : ℕ) → q ≤ n → test q ≡ false) → posted test word n ≡ []
unfolding posted
none_before test word zero none = refl
none_before test word (suc n) none = rw (none (n + 1) (omega arith)) (rw (none_before test word n (λ q lt. none q (omega arith))) refl)

-- one message is sent from the peer on
one_from : (test : ℕ → Bool) (word : ℕ → Message) (p : ℕ) → 1 ≤ p → test p ≡ true → ((q : ℕ) → q < 32 → q ≢ p → test q ≡ false) → (n : ℕ) → p ≤ n → n < 32
    → posted test word n ≡ record { to = p; message = word p } ∷ []
unfolding posted
one_from test word p first here none zero low high = absurd (omega arith)
one_from test word p first here none (suc n) low high = by_order (λ below. one_from test word p first here none n below (omega arith)) (cases_order p (n + 1))
  where
    by_order : (p ≤ n → posted test word n ≡ record { to = p; message = word p } ∷ []) → (p ≡ n + 1) ⊎ ((p < n + 1) ⊎ (n + 1 < p)) → posted test word (suc n) ≡ record { to = p; message = word p } ∷ []
    by_order later (inl same) = rw (← same) (rw here (rw (none_before test word n (λ q lt. none q (omega arith) (λ e. absurd (omega arith)))) refl))
    by_order later (inr (inl below)) = rw (none (n + 1) (omega arith) (λ e. absurd (omega arith))) (rw (later (omega arith)) refl)
    by_order later (inr (inr above)) = absurd (omega arith)

-- a message to a set of one peer is one message
pub posted_alone : (p : ℕ) (message : Message) → IsPeer p → posted (holds (alone p)) (λ q. message) 31 ≡ record { to = p; message = message } ∷ []
posted_alone p message peer = one_from (holds (alone p)) (λ q. message) p peer.0 (is_alone p (omega (arith, peer.1))) (no_other p) 31 peer.1 (omega arith)
