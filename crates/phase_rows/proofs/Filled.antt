-- Sets that a loop over the peers fills.
use Rattle.std.specs.Prelude.{◌||◌}
use Rattle.std.proofs.Common.{◌≡◌, ℕ, zero, suc, ◌+◌, ◌<◌, Bool, true, false, ◌&&◌, ◌==◌, nat_lt, List, length, arith, refl, sym, ◌∙◌}
use Rattle.std.proofs.lemmas.Bool.Decides.{nat_tests}
use Rattle.std.proofs.lemmas.List.{get_or-replicate, ext_get_or}
use Rattle.std.proofs.lemmas.List.FromFn.{get_or-map-range_with_len}
use Rattle.wire_frames.specs.EnsBase.{holds}
use Rattle.phase_rows.specs.Peers.{those, nobody}

-- the set has exactly the peers below this number that pass the test
pub record IsFilled (test : ℕ → Bool) (below : ℕ) (set : List Bool) : Type 0 where
  pub size : length set ≡ 32
  pub at : (p : ℕ) → p < 32 → holds set p ≡ (nat_lt 0 p && nat_lt p below && test p)

pub filled_none : (test : ℕ → Bool) → IsFilled test 1 nobody
filled_none test = record { size = refl; at = λ p h. get_or-replicate 32 p false false h ∙ none p (test p) }
  where
    none : (p : ℕ) (b : Bool) → false ≡ (nat_lt 0 p && nat_lt p 1 && b)
    none p b = grind (arith, nat_tests)

more_at : (here old new : Bool) (i p : ℕ) → 0 < i → old ≡ (nat_lt 0 p && nat_lt p i && here) → (p ≡ i → here ≡ true) → new ≡ (p == i || old) → new ≡ (nat_lt 0 p && nat_lt p (i + 1) && here)
more_at here old new i p low before test now = grind (arith, nat_tests)

same_at : (here old : Bool) (i p : ℕ) → old ≡ (nat_lt 0 p && nat_lt p i && here) → (p ≡ i → here ≡ false) → old ≡ (nat_lt 0 p && nat_lt p (i + 1) && here)
same_at here old i p before test = grind (arith, nat_tests)

pub filled_same : (test : ℕ → Bool) (i : ℕ) (set : List Bool) → IsFilled test i set → test i ≡ false → IsFilled test (i + 1) set
filled_same test i set f t = record { size = f.size; at = λ p h. same_at (test p) (holds set p) i p (f.at p h) (λ q. rw q t) }

last_at : (here : Bool) (k : ℕ) → suc k < 32 → (nat_lt 0 (suc k) && nat_lt (suc k) 32 && here) ≡ here
last_at here k h = grind (arith, nat_tests)

all_at : (test : ℕ → Bool) (set : List Bool) → IsFilled test 32 set → (p : ℕ) → p < 32 → holds set p ≡ holds (those test) p
all_at test set f zero h = f.at 0 h
all_at test set f (suc k) h = f.at (suc k) h ∙ last_at (test (suc k)) k h ∙ sym (get_or-map-range_with_len test 1 31 k (suc k) false (omega arith) (omega arith))

pub filled_all : (test : ℕ → Bool) (set : List Bool) → IsFilled test 32 set → set ≡ those test
filled_all test set f = ext_get_or false set (those test) f.size (λ p h. all_at test set f p (omega (arith, h, f.size)))

pub filled_end : (test : ℕ → Bool) (below : ℕ) (set : List Bool) → below ≡ 32 → IsFilled test below set → set ≡ those test
filled_end test below set e f = filled_all test set (rw (sym e) f)
