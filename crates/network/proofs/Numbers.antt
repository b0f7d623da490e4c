-- Which numbers are in a line, and the order in which they stand.
use Rattle.std.proofs.Common.{◌≡◌, ◌<◌, ◌==◌, ◌||◌, refl, ap, sym, ◌∙◌, arith, ℕ, Bool, true, false, List, [], ◌∷◌, ◌++◌, length, drop}
use Rattle.ens_base.specs.Lists.{is_in}
use Rattle.ens_base.proofs.Lists.{is_in-push}
use Rattle.std.specs.Prelude.{slice_index_or, if◌then◌else◌}
use Rattle.std.proofs.lemmas.Bool.{or_left, or_right, eq-eqb, eqb-true, both_ways, cond-false}
use Rattle.std.proofs.lemmas.Bool.Decides.{nat_tests}
use Rattle.network.specs.Lines.{Ascends, AreBelow, FrontWaits, from_waiting}

-- the first number is in the line
pub first_in : (n : ℕ) (ns : List ℕ) → is_in (n ∷ ns) n ≡ true
first_in n ns = or_left _ _ (eq-eqb n n refl)

pub Ascends-push : (ns : List ℕ) (n : ℕ) → Ascends ns → AreBelow n ns → Ascends (ns ++ n ∷ [])
Ascends-push [] n ascending below = (λ m there. absurd (both_ways _ refl there), tt)
Ascends-push (k ∷ ns) n ascending below =
    (λ m there. above_push k ns n m ascending.0 (below k (first_in k ns)) there, Ascends-push ns n ascending.1 (λ m there. below m (or_right _ _ there)))
  where
    above_push : (k : ℕ) (ns : List ℕ) (n m : ℕ) → ((j : ℕ) → is_in ns j ≡ true → k < j) → k < n → is_in (ns ++ n ∷ []) m ≡ true → k < m
    above_push k ns n m above less there = grind (arith, nat_tests, is_in-push ns n m, above m)

-- a number before the first is not in the line
pub before_first : (n : ℕ) (ns : List ℕ) (k : ℕ) → Ascends (n ∷ ns) → k < n → is_in (n ∷ ns) k ≡ false
before_first n ns k ascending less = grind (arith, nat_tests, ascending.0 k)

module _ (waits : List Bool) where
  -- what is skipped does not wait
  pub skip_from : (ns : List ℕ) (n : ℕ) → is_in (from_waiting waits ns) n ≡ true → is_in ns n ≡ true
  skip_from [] n there = there
  skip_from (k ∷ ns) n there = by (slice_index_or waits k false) there (skip_from ns n) where
    by : (b : Bool) → is_in (if b then k ∷ ns else from_waiting waits ns) n ≡ true → (is_in (from_waiting waits ns) n ≡ true → is_in ns n ≡ true) → is_in (k ∷ ns) n ≡ true
    by true there later = there
    by false there later = or_right _ _ (later there)

  pub skip_keeps : (ns : List ℕ) (n : ℕ) → slice_index_or waits n false ≡ true → is_in ns n ≡ true → is_in (from_waiting waits ns) n ≡ true
  skip_keeps [] n waiting there = there
  skip_keeps (k ∷ ns) n waiting there = by (slice_index_or waits k false) refl (skip_keeps ns n waiting) where
    by : (b : Bool) → slice_index_or waits k false ≡ b → (is_in ns n ≡ true → is_in (from_waiting waits ns) n ≡ true) → is_in (if b then k ∷ ns else from_waiting waits ns) n ≡ true
    by true is later = there
    by false is later = later (behind (n == k) refl there) where
      behind : (e : Bool) → (n == k) ≡ e → (e || is_in ns n) ≡ true → is_in ns n ≡ true
      behind true same or = absurd (both_ways _ (ap (λ (i : ℕ). slice_index_or waits i false) (eqb-true n k same) ∙ is) waiting)
      behind false other or = or

  pub Ascends-skip : (ns : List ℕ) → Ascends ns → Ascends (from_waiting waits ns)
  Ascends-skip [] ascending = tt
  Ascends-skip (k ∷ ns) ascending = by (slice_index_or waits k false) (Ascends-skip ns ascending.1) where
    by : (b : Bool) → Ascends (from_waiting waits ns) → Ascends (if b then k ∷ ns else from_waiting waits ns)
    by true later = ascending
    by false later = later

  pub FrontWaits-skip : (ns : List ℕ) → FrontWaits waits (from_waiting waits ns)
  FrontWaits-skip [] = tt
  FrontWaits-skip (k ∷ ns) = by (slice_index_or waits k false) refl (FrontWaits-skip ns) where
    by : (b : Bool) → slice_index_or waits k false ≡ b → FrontWaits waits (from_waiting waits ns) → FrontWaits waits (if b then k ∷ ns else from_waiting waits ns)
    by true is later = is
    by false is later = later

pub prefix_in : (ns : List ℕ) (n : ℕ) → 0 < length ns → n ≡ slice_index_or ns 0 n → is_in ns n ≡ true
prefix_in [] n some prefix = absurd (omega arith)
prefix_in (k ∷ ns) n some prefix = or_left _ _ (eq-eqb n k prefix)

pub behind_in : (ns : List ℕ) (n : ℕ) → is_in (drop 1 ns) n ≡ true → is_in ns n ≡ true
behind_in [] n there = there
behind_in (k ∷ ns) n there = or_right _ _ there

-- a number at the front that does not wait is skipped
pub skip_prefix : (waits : List Bool) (ns : List ℕ) (n : ℕ) → n ≡ slice_index_or ns 0 n → slice_index_or waits n false ≡ false → from_waiting waits (drop 1 ns) ≡ from_waiting waits ns
skip_prefix waits [] n prefix settled = refl
skip_prefix waits (k ∷ ns) n prefix settled =
    sym (cond-false _ _ _ (ap (λ (i : ℕ). slice_index_or waits i false) (sym prefix) ∙ settled))
