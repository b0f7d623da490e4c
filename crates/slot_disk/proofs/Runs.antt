-- How sequences of calls of a disk compose.
use Rattle.std.proofs.Common.{inl, inr, ⊎_elim, ℕ, List, arith}
use Rattle.slot_disk.specs.Crash.{LeavesOnly}

module _ {D : Type 0} (moment : D → ℕ) (left_since : D → ℕ → List ℕ → Type 0) where
  -- two sequences, one after the other
  pub then_on : (old mid new : D) (P : List ℕ → Type 0) → LeavesOnly moment left_since old mid P → LeavesOnly moment left_since mid new P → LeavesOnly moment left_since old new P
  then_on old mid new P first second = record {
    later = omega (arith, first.later, second.later);
    each = λ c left. ⊎_elim (first.each c) (λ p. p) (second.before (moment old) c first.later left);
    before = λ t c le left. ⊎_elim (first.before t c le) (λ p. inr p) (second.before t c (omega (arith, le, first.later)) left);
  }

  -- a property may be weakened
  pub weaker : (old new : D) (P Q : List ℕ → Type 0) → ((c : List ℕ) → P c → Q c) → LeavesOnly moment left_since old new P → LeavesOnly moment left_since old new Q
  weaker old new P Q implies run = record {
    later = run.later;
    each = λ c left. implies c (run.each c left);
    before = λ t c le left. ⊎_elim (λ e. inl e) (λ p. inr (implies c p)) (run.before t c le left);
  }
