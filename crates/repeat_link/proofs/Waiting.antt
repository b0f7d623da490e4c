-- What is left of frames that wait, and that it keeps to its bounds.
use Rattle.std.proofs.Common.{◌≡◌, ◌∙◌, ◌+◌, ◌-◌, ◌<◌, ◌≤◌, ℕ, suc, Bool, true, false, nat_le, List, [], ◌∷◌, refl, sym, ap, arith, length, map, filter, drop, get_or, if◌then◌else◌}
use Rattle.std.specs.Prelude.{remove, sum_by}
use Rattle.std.proofs.lemmas.Bool.Decides.{nat_tests}
use Rattle.std.proofs.lemmas.List.Sums.{sum_by-cons, sum_by-drop_more}
use Rattle.repeat_link.specs.Queues.{size_of, fits_in, latest, is_due, marked}
use Rattle.repeat_link.specs.declared.send_queue.Queued.{Queued}
use Rattle.repeat_link.specs.declared.send_queue.Timeouts.{Timeouts}

-- where they do not fit, there is an oldest one, and it goes
pub oldest_goes : (qs : List Queued) → fits_in 1024 1048576 qs ≡ false → (0 < length qs) × (latest (remove qs 0) ≡ latest qs)
oldest_goes [] fails = absurd (cc fails)
oldest_goes (q ∷ qs) fails = (omega arith, rw fails refl)

pub all_stay : (qs : List Queued) → fits_in 1024 1048576 qs ≡ true → latest qs ≡ qs
all_stay [] holds = refl
all_stay (q ∷ qs) holds = rw holds refl

-- what is left when the oldest went fits
pub latest_fits : (qs : List Queued) → fits_in 1024 1048576 (latest qs) ≡ true
latest_fits [] = refl
latest_fits (q ∷ qs) = by (fits_in 1024 1048576 (q ∷ qs)) refl (latest_fits qs)
  where
    by : (b : Bool) → fits_in 1024 1048576 (q ∷ qs) ≡ b → fits_in 1024 1048576 (latest qs) ≡ true → fits_in 1024 1048576 (if b then q ∷ qs else latest qs) ≡ true
    by true holds later = holds
    by false fails later = later

-- as many bytes as the room is short of
pub one_less : (qs : List Queued) (i room : ℕ) (q : Queued) → i < length qs → q ≡ get_or qs i q → size_of q ≤ room → nat_le (sum_by size_of (drop i qs)) room ≡ nat_le (sum_by size_of (drop (i + 1) qs)) (room - size_of q)
one_less qs i room q within is short =
    let split : sum_by size_of (drop i qs) ≡ size_of q + sum_by size_of (drop (i + 1) qs) = sum_by-drop_more size_of qs i q within ∙ ap (λ x. size_of x + sum_by size_of (drop (i + 1) qs)) (sym is) in
    rw split (grind (arith, nat_tests))

pub too_much : (qs : List Queued) (i room : ℕ) (q : Queued) → i < length qs → q ≡ get_or qs i q → room < size_of q → nat_le (sum_by size_of (drop i qs)) room ≡ false
too_much qs i room q within is long =
    let split : sum_by size_of (drop i qs) ≡ size_of q + sum_by size_of (drop (i + 1) qs) = sum_by-drop_more size_of qs i q within ∙ ap (λ x. size_of x + sum_by size_of (drop (i + 1) qs)) (sym is) in
    rw split (grind (arith, nat_tests))

-- fewer frames of no more bytes fit as well
fewer : (frames bytes : ℕ) (qs rs : List Queued) → length rs ≤ length qs → sum_by size_of rs ≤ sum_by size_of qs → fits_in frames bytes qs ≡ true → fits_in frames bytes rs ≡ true
fewer frames bytes qs rs few small holds = grind (arith, nat_tests)

filter_few : (keep : Queued → Bool) (qs : List Queued) → (length (filter keep qs) ≤ length qs) × (sum_by size_of (filter keep qs) ≤ sum_by size_of qs)
filter_few keep [] = (omega arith, omega arith)
filter_few keep (q ∷ qs) = by (keep q) (filter_few keep qs)
  where
    by : (b : Bool) → (length (filter keep qs) ≤ length qs) × (sum_by size_of (filter keep qs) ≤ sum_by size_of qs) → (length (if b then q ∷ filter keep qs else filter keep qs) ≤ suc (length qs)) × (sum_by size_of (if b then q ∷ filter keep qs else filter keep qs) ≤ sum_by size_of (q ∷ qs))
    by true later = let few = later.0 in let less = later.1 in (omega arith, omega (arith, sum_by-cons size_of q qs, sum_by-cons size_of q (filter keep qs)))
    by false later = let few = later.0 in let less = later.1 in (omega arith, omega (arith, sum_by-cons size_of q qs))

pub filter_fits : (keep : Queued → Bool) (qs : List Queued) → fits_in 1024 1048576 qs ≡ true → fits_in 1024 1048576 (filter keep qs) ≡ true
filter_fits keep qs holds = let few = filter_few keep qs in fewer 1024 1048576 qs (filter keep qs) few.0 few.1 holds

marked_size : (first now : ℕ) (t : Timeouts) (q : Queued) → size_of (marked first now t q) ≡ size_of q
marked_size first now t q = by (is_due first now q) refl
  where
    by : (b : Bool) → is_due first now q ≡ b → size_of (marked first now t q) ≡ size_of q
    by true due = rw due refl
    by false late = rw late refl

map_few : (first now : ℕ) (t : Timeouts) (qs : List Queued) → (length (map (marked first now t) qs) ≤ length qs) × (sum_by size_of (map (marked first now t) qs) ≤ sum_by size_of qs)
map_few first now t [] = (omega arith, omega arith)
map_few first now t (q ∷ qs) =
    let few = (map_few first now t qs).0 in
    let less = (map_few first now t qs).1 in
    let same = marked_size first now t q in
    (omega arith, omega (arith, sum_by-cons size_of q qs, sum_by-cons size_of (marked first now t q) (map (marked first now t) qs)))

pub map_fits : (first now : ℕ) (t : Timeouts) (qs : List Queued) → fits_in 1024 1048576 qs ≡ true → fits_in 1024 1048576 (map (marked first now t) qs) ≡ true
map_fits first now t qs holds = let few = map_few first now t qs in fewer 1024 1048576 qs (map (marked first now t) qs) few.0 few.1 holds

pub fits_after : (xs ys : List Queued) → ys ≡ latest xs → fits_in 1024 1048576 ys ≡ true
fits_after xs ys is = ap (fits_in 1024 1048576) is ∙ latest_fits xs
