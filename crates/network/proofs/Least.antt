-- The least number of a message that waits and passes a test.
use Rattle.std.proofs.Common.{◌≡◌, ◌&&◌, refl, ap, sym, ◌∙◌, arith, subst, ℕ, zero, suc, Bool, true, false, List, [], ◌∷◌, Option, None, Some}
use Rattle.std.specs.Prelude.{if◌then◌else◌}
use Rattle.std.specs.Option.{option_map}
use Rattle.std.proofs.lemmas.Bool.{and_right, both_ways, cond-true, cond-false}
use Rattle.std.proofs.lemmas.Option.{none-some, same_Some}
use Rattle.wire_frames.specs.declared.frame.Frame.{Frame}
use Rattle.network.specs.Mail.{Mail, least, is_waiting, IsClear}

-- the mail of these two lists
abbrev of : List Frame → List Bool → Mail
of sent waits = record { sent = sent; waits = waits }

-- no message waits past the end
pub past : (test : Frame → Bool) (waits : List Bool) (n : ℕ) → is_waiting test (of [] waits) n ≡ false
past test waits n = and_right _ _ refl

-- the least number, if this message waits and passes and none before it does
pub least_found : (test : Frame → Bool) (sent : List Frame) (waits : List Bool) (n : ℕ) → is_waiting test (of sent waits) n ≡ true → IsClear test n (of sent waits) → least test sent waits ≡ Some n
least_found test [] waits n waiting clear = absurd (both_ways _ (past test waits n) waiting)
least_found test (f ∷ sent) [] n waiting clear = absurd (both_ways _ refl waiting)
least_found test (f ∷ sent) (w ∷ waits) zero waiting clear = cond-true _ _ _ waiting
least_found test (f ∷ sent) (w ∷ waits) (suc n) waiting clear =
    cond-false _ _ _ (clear 0 (omega arith))
    ∙ ap (option_map (λ (k : ℕ). suc k)) (least_found test sent waits n waiting (λ k below. clear (suc k) (omega arith)))

-- there is no least number if none waits and passes
pub least_none : (test : Frame → Bool) (sent : List Frame) (waits : List Bool) → ((n : ℕ) → is_waiting test (of sent waits) n ≡ false) → least test sent waits ≡ None
least_none test [] waits none = refl
least_none test (f ∷ sent) [] none = refl
least_none test (f ∷ sent) (w ∷ waits) none =
    cond-false _ _ _ (none 0)
    ∙ ap (option_map (λ (k : ℕ). suc k)) (least_none test sent waits (λ n. none (suc n)))

-- this message waits and passes the test, and none before it does
pub record IsLeast (test : Frame → Bool) (m : Mail) (n : ℕ) : Type 0 where
  pub waiting : is_waiting test m n ≡ true
  pub clear : IsClear test n m

clear_further : (test : Frame → Bool) (f : Frame) (sent : List Frame) (w : Bool) (waits : List Bool) (k : ℕ) → IsClear test k (of sent waits) → (w && test f) ≡ false → IsClear test (suc k) (of (f ∷ sent) (w ∷ waits))
clear_further test f sent w waits k clear first zero below = first
clear_further test f sent w waits k clear first (suc j) below = clear j (omega arith)

one_further : (test : Frame → Bool) (f : Frame) (sent : List Frame) (w : Bool) (waits : List Bool) (rest : Option ℕ) → ((n : ℕ) → rest ≡ Some n → IsLeast test (of sent waits) n) → (w && test f) ≡ false → (n : ℕ) → option_map (λ k. suc k) rest ≡ Some n → IsLeast test (of (f ∷ sent) (w ∷ waits)) n
one_further test f sent w waits None later first n is = absurd (none-some n is)
one_further test f sent w waits (Some k) later first n is =
    let least = later k refl in
    subst (IsLeast test (of (f ∷ sent) (w ∷ waits))) (same_Some (suc k) n is) (record { waiting = least.waiting; clear = clear_further test f sent w waits k least.clear first })

by_first : (test : Frame → Bool) (f : Frame) (sent : List Frame) (w : Bool) (waits : List Bool) (b : Bool) → (w && test f) ≡ b → ((n : ℕ) → least test sent waits ≡ Some n → IsLeast test (of sent waits) n) → (n : ℕ) → (if b then Some 0 else option_map (λ k. suc k) (least test sent waits)) ≡ Some n → IsLeast test (of (f ∷ sent) (w ∷ waits)) n
by_first test f sent w waits true first later n is =
    subst (IsLeast test (of (f ∷ sent) (w ∷ waits))) (same_Some 0 n is) (record { waiting = first; clear = λ j below. absurd (omega arith) })
by_first test f sent w waits false first later n is = one_further test f sent w waits (least test sent waits) later first n is

-- `least` finds the least number
pub least_is : (test : Frame → Bool) (sent : List Frame) (waits : List Bool) (n : ℕ) → least test sent waits ≡ Some n → IsLeast test (of sent waits) n
least_is test [] waits n is = absurd (none-some n is)
least_is test (f ∷ sent) [] n is = absurd (none-some n is)
least_is test (f ∷ sent) (w ∷ waits) n is = by_first test f sent w waits (w && test f) refl (least_is test sent waits) n is

nothing_further : (rest : Option ℕ) → option_map (λ k. suc k) rest ≡ None → rest ≡ None
nothing_further None is = refl
nothing_further (Some k) is = absurd (none-some (suc k) (sym is))

nothing_first : (first : Bool) (rest : Option ℕ) → (if first then Some 0 else option_map (λ k. suc k) rest) ≡ None → (first ≡ false) × (rest ≡ None)
nothing_first true rest is = absurd (none-some 0 (sym is))
nothing_first false rest is = (refl, nothing_further rest is)

-- if `least` finds nothing, no message waits and passes the test
pub least_nothing : (test : Frame → Bool) (sent : List Frame) (waits : List Bool) → least test sent waits ≡ None → (n : ℕ) → is_waiting test (of sent waits) n ≡ false
least_nothing test [] waits is n = past test waits n
least_nothing test (f ∷ sent) [] is n = refl
least_nothing test (f ∷ sent) (w ∷ waits) is zero = (nothing_first (w && test f) (least test sent waits) is).0
least_nothing test (f ∷ sent) (w ∷ waits) is (suc n) = least_nothing test sent waits (nothing_first (w && test f) (least test sent waits) is).1 n
