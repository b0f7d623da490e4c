-- The arrows of the messages that wait.
use Rattle.std.proofs.Common.{◌≡◌, ◌<◌, ◌+◌, ◌++◌, ◌∷◌, ℕ, zero, suc, List, [], length, take, map, get_or, refl, sym, ap, ◌∙◌, arith}
use Rattle.std.specs.Prelude.{Bool, true, false, ◌&&◌, slice_index_or, if◌then◌else◌}
use Rattle.std.proofs.lemmas.List.{append_assoc, map-append}
use Rattle.wire_frames.specs.declared.frame.Frame.{Frame}
use Rattle.chart.specs.declared.fate.Fate.{Fate}
use Rattle.chart.specs.Lines.{waiting}
use Rattle.chart.specs.Notes.{arrow_line}

-- the messages of a prefix of the mail that wait and pass the test
pub one_more : (test : Frame → Bool) (i : ℕ) (sent : List Frame) (waits : List Bool) (f : Frame) → i < length sent
    → waiting test (take (i + 1) sent) waits ≡ waiting test (take i sent) waits ++ (if slice_index_or waits i false && test (get_or sent i f) then get_or sent i f ∷ [] else [])
one_more test i [] waits f below = absurd (omega arith)
one_more test zero (g ∷ sent) [] f below = refl
one_more test zero (g ∷ sent) (true ∷ waits) f below = by (test g) where
  by : (b : Bool) → (if b then g ∷ [] else []) ≡ [] ++ (if b then g ∷ [] else [])
  by true = refl
  by false = refl
one_more test zero (g ∷ sent) (false ∷ waits) f below = refl
one_more test (suc i) (g ∷ sent) [] f below =
    let next : suc i + 1 ≡ suc (i + 1) = omega arith in
    ap (λ (k : ℕ). waiting test (take k (g ∷ sent)) []) next
one_more test (suc i) (g ∷ sent) (w ∷ waits) f below =
    let next : suc i + 1 ≡ suc (i + 1) = omega arith in
    ap (λ (k : ℕ). waiting test (take k (g ∷ sent)) (w ∷ waits)) next ∙ by (w && test g) _ _ _ (one_more test i sent waits f (omega (arith, below))) where
      by : (b : Bool) (xs ys zs : List Frame) → xs ≡ ys ++ zs → (if b then g ∷ xs else xs) ≡ (if b then g ∷ ys else ys) ++ zs
      by true xs ys zs is = ap (λ l. g ∷ l) is
      by false xs ys zs is = is

-- the arrow of one more message, if it waits and passes the test
pub arrows_next : (fate : Fate) (test : Frame → Bool) (i : ℕ) (sent : List Frame) (waits : List Bool) (f : Frame) (wanted : Bool) (old lines next : List (List ℕ)) → i < length sent → f ≡ get_or sent i f
    → wanted ≡ (slice_index_or waits i false && test f) → lines ≡ old ++ map (arrow_line fate) (waiting test (take i sent) waits) → next ≡ lines ++ map (arrow_line fate) (if wanted then f ∷ [] else [])
    → next ≡ old ++ map (arrow_line fate) (waiting test (take (i + 1) sent) waits)
arrows_next fate test i sent waits f wanted old lines next below here is shown added =
    let so_far = waiting test (take i sent) waits in
    let one : Frame → List Frame = λ g. if slice_index_or waits i false && test g then g ∷ [] else [] in
    let all : waiting test (take (i + 1) sent) waits ≡ so_far ++ one f = one_more test i sent waits f below ∙ ap (λ (g : Frame). so_far ++ one g) (sym here) in
    rw added (rw shown (rw is (append_assoc old (map (arrow_line fate) so_far) (map (arrow_line fate) (one f)) ∙ ap (λ l. old ++ l) (sym (map-append (arrow_line fate) so_far (one f)) ∙ ap (map (arrow_line fate)) (sym all)))))
