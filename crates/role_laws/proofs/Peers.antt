-- What a peer is, and what messages say, stays so through the steps of others.
use Rattle.std.proofs.Common.{◌≡◌, ℕ, ◌≤◌, Bool, arith, refl, inl, inr, sym, ◌∙◌, le_trans}
use Rattle.protocol_laws.proofs.Stays.{genuine_stays}
use Rattle.protocol_laws.specs.Versions.{VersionsStay}
use Rattle.protocol_laws.specs.Elections.{Stays}
use Rattle.protocol_laws.specs.Ledger.{Place, Ledger, IsFact}
use Rattle.protocol_laws.specs.Objects.{Map, Objects}
use Rattle.role_laws.specs.Facts.{Fact, Lines, IsTrue, IsFirst, place_of, change_at}
use Rattle.role_laws.specs.Trees.{Tree}
use Rattle.role_laws.specs.Syncs.{Asking, Sync, AskHolds, SyncHolds}
use Rattle.role_laws.specs.SyncMessages.{GiveSays}

-- ## Facts

module _ (l m : Ledger) (stays : Stays l m) where
  fact_stays : (f : Place) → IsFact l f → IsFact m f
  fact_stays f (inl z) = inl z
  fact_stays f (inr (inl h)) = inr (inl (stays.elected f.epoch h.0, h.1))
  fact_stays f (inr (inr h)) = inr (inr ((stays.changed f.epoch h.0).0, h.1))

  change_stays : (f : Place) → IsFact l f → change_at m f ≡ change_at l f
  change_stays f (inl z) = rw z.1 refl
  change_stays f (inr (inl h)) = rw h.1 refl
  change_stays f (inr (inr h)) = rw ((stays.changed f.epoch h.0).1) refl

  pub true_stays : (f : Fact) → IsTrue l f → IsTrue m f
  true_stays f a = record { below = a.below; elected = stays.elected f.epoch a.elected; is_fact = fact_stays (place_of f) a.is_fact; views = a.views ∙ sym (stays.views f.epoch a.elected); change = a.change ∙ sym (change_stays (place_of f) a.is_fact) }

  pub first_stays : (f : Fact) → IsFirst l f → IsFirst m f
  first_stays f a = record { known = true_stays f a.known; seq = a.seq; later = a.later; own_ballot = a.own_ballot }

-- ## Trees and syncs

module _ (g : Lines) (o t : Objects) (stay : VersionsStay o t) where
  pub ask_stays : (d : ℕ) (scan : Map) (q : ℕ) (a : Asking) → AskHolds g o d scan q a → AskHolds g t d scan q a
  ask_stays d scan q a old = record {
    genuine = λ k. genuine_stays o t stay d k (a.received k) (old.genuine k);
    reached = λ k none. le_trans (old.reached k none) (stay.ledger.ballot q);
    covered = λ sure k none. le_trans (stay.floors q d k (old.reached k none)) (old.covered sure k none);
    done = old.done;
  }

  pub sync_stays : (p : ℕ) (fact : Fact) (x : Tree) (trusted : Bool) (y : Sync) → o.ledger.ballot p ≡ fact.ballot → SyncHolds g o p fact x trusted y → SyncHolds g t p fact x trusted y
  sync_stays p fact x trusted y stands a = record {
    first = first_stays o.ledger t.ledger stay.ledger y.fact a.first;
    stands = a.stands;
    newer = a.newer;
    found = a.found;
    scanned = λ k. genuine_stays o t stay y.fact.epoch k (y.scan.entries k) (a.scanned k);
    whole = λ none sure k. le_trans (stay.floors p y.fact.epoch k (at (o.ledger.ballot p) y.fact.epoch fact.ballot stands a.stands)) (a.whole none sure k);
    asks = λ q. ask_stays y.fact.epoch y.scan.entries q (y.asks q) (a.asks q);
  }
    where
      at : (b d f : ℕ) → b ≡ f → d ≡ f → d ≤ b
      at b d f e h = omega arith

  pub give_stays : (q d : ℕ) (flag : Bool) (shown : Map) → GiveSays g o q d flag shown → GiveSays g t q d flag shown
  give_stays q d flag shown a = record { reached = le_trans a.reached (stay.ledger.ballot q); genuine = λ k. genuine_stays o t stay d k (shown k) (a.genuine k); given = λ sure k. le_trans (stay.floors q d k a.reached) (a.given sure k) }
