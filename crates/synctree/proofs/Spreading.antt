-- The loops over the children of a node.
use Rattle.std.proofs.Common.{◌≡◌, ℕ, zero, suc, get_or, ◌+◌, ◌*◌, ◌/◌, ◌%◌, ◌<◌, ◌≤◌, ◌^◌, Bool, true, false, cond, List, [], ◌∷◌, ◌++◌, Option, None, length, drop, refl, ap, sym, ◌∙◌, arith, append_assoc, length-drop}
use Rattle.std.specs.Prelude.{slice_get, ◌==◌}
use lib.Pow.{pow_mono}
use mir.Val.{bool_byte}
use Rattle.synctree.specs.Sixteen.{spread, children_of, mask_of}
use Rattle.synctree.proofs.Formats.{mask_below}

pub spread_first : (k mask : ℕ) (ds : List (List ℕ)) → k + 0 ≡ 16 → children_of mask ds ≡ spread k mask (drop 0 ds)
unfolding children_of
spread_first k mask ds e = let is : k ≡ 16 = omega arith in rw is refl

get_drop : (n : ℕ) (ds : List (List ℕ)) → slice_get (drop n ds) 0 ≡ slice_get ds n
get_drop zero ds = refl
get_drop (suc n) [] = refl
get_drop (suc n) (d ∷ ds) = get_drop n ds

drop_one : (n : ℕ) (ds : List (List ℕ)) → drop 1 (drop n ds) ≡ drop (n + 1) ds
drop_one zero [] = refl
drop_one (suc n) [] = let next : suc n + 1 ≡ suc (n + 1) = omega arith in rw next refl
drop_one zero (d ∷ ds) = refl
drop_one (suc n) (d ∷ ds) = let next : suc n + 1 ≡ suc (n + 1) = omega arith in rw next (drop_one n ds)

step_is : (k mask : ℕ) (ds : List (List ℕ)) → spread (suc k) mask ds ≡ cond (mask % 2 == 1) (slice_get ds 0) None ∷ spread k (mask / 2) (drop (cond (mask % 2 == 1) 1 0) ds)
step_is k mask ds = by (mask % 2 == 1)
  where
    by : (b : Bool) → cond b (slice_get ds 0 ∷ spread k (mask / 2) (drop 1 ds)) (None ∷ spread k (mask / 2) ds) ≡ cond b (slice_get ds 0) None ∷ spread k (mask / 2) (drop (cond b 1 0) ds)
    by true = refl
    by false = refl

-- one more child
pub spread_next : (k mask next : ℕ) (ds : List (List ℕ)) (total all : List (Option (List ℕ))) → total ≡ all ++ spread (suc k) mask (drop next ds)
    → total ≡ (all ++ cond (mask % 2 == 1) (slice_get ds next) None ∷ []) ++ spread k (mask / 2) (drop (next + cond (mask % 2 == 1) 1 0) ds)
spread_next k mask next ds total all e = e ∙ ap (λ xs. all ++ xs) (step_is k mask (drop next ds) ∙ by (mask % 2 == 1)) ∙ sym (append_assoc all (cond (mask % 2 == 1) (slice_get ds next) None ∷ []) (spread k (mask / 2) (drop (next + cond (mask % 2 == 1) 1 0) ds)))
  where
    by : (b : Bool) → cond b (slice_get (drop next ds) 0) None ∷ spread k (mask / 2) (drop (cond b 1 0) (drop next ds)) ≡ cond b (slice_get ds next) None ∷ spread k (mask / 2) (drop (next + cond b 1 0) ds)
    by true = let one = get_drop next ds in let two = drop_one next ds in λ i. one i ∷ spread k (mask / 2) (two i)
    by false = let same : next + 0 ≡ next = omega arith in rw same refl

-- the first child is passed over
pub skip_one : (k mask next j : ℕ) (ds : List (List ℕ)) → get_or (spread (suc k) mask (drop next ds)) (suc j) None ≡ get_or (spread k (mask / 2) (drop (next + cond (mask % 2 == 1) 1 0) ds)) j None
skip_one k mask next j ds = ap (λ xs. get_or xs (suc j) None) (step_is k mask (drop next ds)) ∙ by (mask % 2 == 1)
  where
    by : (b : Bool) → get_or (spread k (mask / 2) (drop (cond b 1 0) (drop next ds))) j None ≡ get_or (spread k (mask / 2) (drop (next + cond b 1 0) ds)) j None
    by true = ap (λ xs. get_or (spread k (mask / 2) xs) j None) (drop_one next ds)
    by false = let same : next + 0 ≡ next = omega arith in rw same refl

-- the first child
pub at_first : (k mask next : ℕ) (ds : List (List ℕ)) → get_or (spread (suc k) mask (drop next ds)) 0 None ≡ cond (mask % 2 == 1) (slice_get ds next) None
at_first k mask next ds = ap (λ xs. get_or xs 0 None) (step_is k mask (drop next ds)) ∙ by (mask % 2 == 1)
  where
    by : (b : Bool) → cond b (slice_get (drop next ds) 0) None ≡ cond b (slice_get ds next) None
    by true = get_drop next ds
    by false = refl

pub mask_room : (cs : List (Option (List ℕ))) (c : ℕ) → 0 < c → c ≤ length cs → length cs ≤ 16 → 2 * mask_of (drop c cs) + 1 < 2 ^ 16
mask_room cs c some bound few =
    let below : mask_of (drop c cs) < 2 ^ length (drop c cs) = mask_below (drop c cs) in
    let long : length (drop c cs) ≤ 15 = omega (arith, length-drop c cs) in
    let most : 2 ^ length (drop c cs) ≤ 2 ^ 15 = pow_mono long in
    room (mask_of (drop c cs)) (2 ^ length (drop c cs)) below most
  where
    room : (m p : ℕ) → m < p → p ≤ 2 ^ 15 → 2 * m + 1 < 2 ^ 16
    room m p a b = omega arith

pub byte_is : (b : Bool) → bool_byte b ≡ cond b 1 0
byte_is true = refl
byte_is false = refl

pub byte_small : (b : Bool) → bool_byte b ≤ 1
byte_small true = omega arith
byte_small false = omega arith
