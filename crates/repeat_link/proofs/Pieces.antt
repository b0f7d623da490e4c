-- The parts of a frame make it up.
use Rattle.std.proofs.Common.{◌≡◌, ◌∙◌, ◌+◌, ◌*◌, ◌<◌, ◌≤◌, ◌++◌, inl, inr, ℕ, suc, min, List, [], ◌∷◌, Option, None, Some, refl, sym, ap, arith, append_assoc, length, take, drop, get_or}
use Rattle.std.specs.Prelude.{slice_index_or}
use Rattle.std.specs.Option.{option_map}
use Rattle.std.proofs.Math.Seq.{take-add, take-length}
use Rattle.std.proofs.lemmas.Bool.{cases_lt}
use Rattle.std.proofs.lemmas.List.{append-nil, at_drop_all, at_drop_more, drop-drop, take_all}
use Rattle.repeat_link.specs.Parts.{part_count, part_at, whole}

some_of_map : (f : List ℕ → List ℕ) (o : Option (List ℕ)) (x : List ℕ) → option_map f o ≡ Some x → (y : List ℕ) × (o ≡ Some y) × (x ≡ f y)
some_of_map f None x is = absurd (cc is)
some_of_map f (Some y) x is = (y, refl, cc is)

-- parts that came, and the front of the frame that they make up
front_of_parts : (parts : List (Option (List ℕ))) (frame x : List ℕ) → ((place : ℕ) (part : List ℕ) → slice_index_or parts place None ≡ Some part → part ≡ take 1400 (drop (place * 1400) frame)) → whole parts ≡ Some x → x ≡ take (length parts * 1400) frame
front_of_parts [] frame x agree is = cc is
front_of_parts (None ∷ parts) frame x agree is = absurd (cc is)
front_of_parts (Some p ∷ parts) frame x agree is =
    let rest = some_of_map (λ r. p ++ r) (whole parts) x is in
    let later = front_of_parts parts (drop 1400 frame) rest.0 (λ place part is. agree (suc place) part is ∙ ap (take 1400) (further place)) rest.1 in
    let first : p ≡ take 1400 frame = agree 0 p refl in
    rest.2 ∙ ap (λ b. b ++ rest.0) first ∙ ap (λ b. take 1400 frame ++ b) later ∙ sym (take-add 1400 (length parts * 1400) frame) ∙ ap (λ n. take n frame) (sym (shifted (length parts)))
  where
    shifted : (place : ℕ) → suc place * 1400 ≡ 1400 + place * 1400
    shifted place = omega arith

    further : (place : ℕ) → drop (suc place * 1400) frame ≡ drop (place * 1400) (drop 1400 frame)
    further place = ap (λ n. drop n frame) (shifted place) ∙ sym (drop-drop (place * 1400) 1400 frame)

-- parts of a frame, as many as it has
pub frame_of_parts : (parts : List (Option (List ℕ))) (frame x : List ℕ) → length parts ≡ part_count frame → ((place : ℕ) (part : List ℕ) → slice_index_or parts place None ≡ Some part → part ≡ part_at place frame) → whole parts ≡ Some x → x ≡ frame
frame_of_parts parts frame x count agree is = front_of_parts parts frame x agree is ∙ take_all (length parts * 1400) frame (omega arith)

-- a frame of one part is that part
pub one_part : (frame : List ℕ) → part_count frame ≡ 1 → part_at 0 frame ≡ frame
one_part frame one = take_all 1400 frame (omega arith)

-- the front of a list, by the lesser of its length and a bound
pub front_within : (n : ℕ) (l : List ℕ) → take (min (length l) n) l ≡ take n l
front_within n l =
    elim (cases_lt (length l) n) [
      | inl short ↦ ap (λ k. take k l) (min_left short) ∙ take-length l ∙ sym (take_all n l (omega arith))
      | inr long ↦ ap (λ k. take k l) (min_right long)
    ]
  where
    min_left : length l < n → min (length l) n ≡ length l
    min_left short = omega arith

    min_right : n ≤ length l → min (length l) n ≡ n
    min_right long = omega arith

-- the parts from a place on, one after the other
pub none_lacks : (xs : List (Option (List ℕ))) (i : ℕ) (x : Option (List ℕ)) → i < length xs → x ≡ get_or xs i x → x ≡ None → whole (drop i xs) ≡ None
none_lacks xs i x within is none = at_drop_more whole xs i x within ∙ ap (λ o. whole (o ∷ drop (i + 1) xs)) (sym is ∙ none)

pub one_more : (xs : List (Option (List ℕ))) (i : ℕ) (x : Option (List ℕ)) (front part : List ℕ) → i < length xs → x ≡ get_or xs i x → x ≡ Some part → option_map (λ r. front ++ r) (whole (drop i xs)) ≡ option_map (λ r. (front ++ part) ++ r) (whole (drop (i + 1) xs))
one_more xs i x front part within is some =
    ap (option_map (λ r. front ++ r)) (at_drop_more whole xs i x within ∙ ap (λ o. whole (o ∷ drop (i + 1) xs)) (sym is ∙ some)) ∙ joined (whole (drop (i + 1) xs))
  where
    joined : (o : Option (List ℕ)) → option_map (λ r. front ++ r) (option_map (λ r. part ++ r) o) ≡ option_map (λ r. (front ++ part) ++ r) o
    joined None = refl
    joined (Some r) = ap Some (sym (append_assoc front part r))

pub all_joined : (xs : List (Option (List ℕ))) (i : ℕ) (front : List ℕ) → length xs ≤ i → option_map (λ r. front ++ r) (whole (drop i xs)) ≡ Some front
all_joined xs i front end = ap (option_map (λ r. front ++ r)) (at_drop_all whole xs i end) ∙ ap Some (append-nil front)
