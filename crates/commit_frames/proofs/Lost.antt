-- What a crash leaves of bytes that were written over zeros.
use Rattle.std.proofs.Common.{◌≡◌, ◌⊎◌, inl, inr, ℕ, suc, ◌+◌, ◌≤◌, cond, List, [], ◌∷◌, length, eqb, refl, sym, ap, ◌∙◌, arith}
use Rattle.std.proofs.lemmas.Bool.Decides.{nat_tests}
use Rattle.std.proofs.lemmas.Bool.{cases_eq}
use Rattle.std.proofs.lemmas.List.Sums.{sum_by-cons}
use Rattle.commit_frames.specs.Headers.{zeros_in}
use Rattle.commit_frames.specs.Frames.{IsLostFrom}

pub one_zero : ℕ → ℕ
one_zero b = cond (eqb b 0) 1 0

pub zeros_cons : (b : ℕ) (bs : List ℕ) → zeros_in (b ∷ bs) ≡ one_zero b + zeros_in bs
unfolding one_zero
zeros_cons b bs = sum_by-cons (λ y. cond (eqb y 0) 1 0) b bs

pub zero_one : one_zero 0 ≡ 1
unfolding one_zero
zero_one = refl

pub other_none : (b : ℕ) → (b ≡ 0 → ⊥) → one_zero b ≡ 0
unfolding one_zero
other_none b ne = grind (arith, nat_tests)

pub at_most_one : (b : ℕ) → one_zero b ≤ 1
unfolding one_zero
at_most_one b = grind (arith, nat_tests)

-- the bytes after the first one
rest_of : (w l : ℕ) (ws ls : List ℕ) → IsLostFrom (w ∷ ws) (l ∷ ls) → IsLostFrom ws ls
rest_of w l ws ls lost = record { size = (let e : length ls ≡ length ws = omega (arith, lost.size) in e); each = λ i lt. lost.each (suc i) (omega arith) }

first_zeros : (w l : ℕ) → (l ≡ 0) ⊎ (l ≡ w) → one_zero w ≤ one_zero l
first_zeros w l (inl e) = omega (arith, at_most_one w, ap one_zero e, zero_one)
first_zeros w l (inr e) = omega (arith, ap one_zero e)

-- no fewer bytes are 0
pub zeros_more : (whole left : List ℕ) → IsLostFrom whole left → zeros_in whole ≤ zeros_in left
zeros_more [] [] lost = omega arith
zeros_more [] (l ∷ ls) lost = absurd (let e : suc (length ls) ≡ 0 = lost.size in omega (arith, e))
zeros_more (w ∷ ws) [] lost = absurd (let e : 0 ≡ suc (length ws) = lost.size in omega (arith, e))
zeros_more (w ∷ ws) (l ∷ ls) lost = omega (arith, first_zeros w l (lost.each 0 (omega arith)), zeros_more ws ls (rest_of w l ws ls lost), zeros_cons w ws, zeros_cons l ls)

first_same : (w l : ℕ) → (l ≡ 0) ⊎ (l ≡ w) → one_zero l ≡ one_zero w → l ≡ w
first_same w l (inr e) same = e
first_same w l (inl e) same = by (cases_eq w 0)
  where
    by : (w ≡ 0) ⊎ (w ≡ 0 → ⊥) → l ≡ w
    by (inl z) = e ∙ sym z
    by (inr ne) = absurd (omega (arith, same, other_none w ne, ap one_zero e, zero_one))

-- all of them are there if no more are 0
pub zeros_same : (whole left : List ℕ) → IsLostFrom whole left → zeros_in left ≡ zeros_in whole → left ≡ whole
zeros_same [] [] lost same = refl
zeros_same [] (l ∷ ls) lost same = absurd (let e : suc (length ls) ≡ 0 = lost.size in omega (arith, e))
zeros_same (w ∷ ws) [] lost same = absurd (let e : 0 ≡ suc (length ws) = lost.size in omega (arith, e))
zeros_same (w ∷ ws) (l ∷ ls) lost same =
    let behind = rest_of w l ws ls lost in
    let one = first_zeros w l (lost.each 0 (omega arith)) in
    let more = zeros_more ws ls behind in
    let ones : one_zero l ≡ one_zero w = omega (arith, one, more, same, zeros_cons w ws, zeros_cons l ls) in
    let others : zeros_in ls ≡ zeros_in ws = omega (arith, one, more, same, zeros_cons w ws, zeros_cons l ls) in
    let first : l ≡ w = first_same w l (lost.each 0 (omega arith)) ones in
    let rest : ls ≡ ws = zeros_same ws ls behind others in
    (λ i. first i ∷ rest i)
