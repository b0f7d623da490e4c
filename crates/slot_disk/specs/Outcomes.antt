-- What a read returns is one of the outcomes of a crash.
use Rattle.std.proofs.Common.{◌≡◌, ◌⊎◌, inl, inr, ℕ, ◌+◌, ◌-◌, ◌<◌, ◌≤◌, min, List, [], ◌∷◌, ◌++◌, length, take, drop, replicate, reverse, Some, refl, sym, ◌∙◌, ap, subst, arith, length-append, length-drop}
use Rattle.std.proofs.lemmas.List.{take_all, take-append-le, drop_at, length-take, take-take, length-replicate}
use Rattle.std.proofs.lemmas.Bool.{cases_lt}
use Rattle.slot_disk.specs.Crash.{overlaid, written, Torn, Cut}
use Rattle.slot_disk.specs.Steps.{Deed, Wrote, CutTo, Synced, seen_of, IsImage, Leaves}

pub length-prefix : (old : List ℕ) (at : ℕ) → length (take at old ++ replicate (at - length old) 0) ≡ at
length-prefix old at = omega (arith, length-append (take at old) (replicate (at - length old) 0), length-take at old, length-replicate {A = ℕ} (at - length old) 0)

length-put : (old : List ℕ) (at : ℕ) (bytes : List ℕ) → length ((take at old ++ replicate (at - length old) 0) ++ bytes) ≡ at + length bytes
length-put old at bytes = omega (arith, length-append (take at old ++ replicate (at - length old) 0) bytes, length-prefix old at)

pub length-overlaid : (old : List ℕ) (at : ℕ) (bytes : List ℕ) → length (overlaid old at bytes) ≡ at + length bytes + (length old - (at + length bytes))
length-overlaid old at bytes = omega (arith, length-append ((take at old ++ replicate (at - length old) 0) ++ bytes) (drop (at + length bytes) old), length-put old at bytes, length-drop (at + length bytes) old)

-- a complete write is one of the outcomes of a crash
pub torn_whole : (old : List ℕ) (at : ℕ) (bytes : List ℕ) → Torn at (length bytes) old (written old at bytes)
torn_whole old at [] = record { before = refl; after = refl; no_shorter = omega arith; no_longer = omega arith; nothing = λ e. refl }
torn_whole old at (byte ∷ rest) = let bytes = byte ∷ rest in record {
  before = take-append-le (min at (length old)) ((take at old ++ replicate (at - length old) 0) ++ bytes) (drop (at + length bytes) old) (omega (arith, length-put old at bytes))
      ∙ take-append-le (min at (length old)) (take at old ++ replicate (at - length old) 0) bytes (omega (arith, length-prefix old at))
      ∙ take-append-le (min at (length old)) (take at old) (replicate (at - length old) 0) (omega (arith, length-take at old))
      ∙ take-take (min at (length old)) at old (omega arith);
  after = drop_at ((take at old ++ replicate (at - length old) 0) ++ bytes) (drop (at + length bytes) old) (at + length bytes) (length-put old at bytes);
  no_shorter = omega (arith, length-overlaid old at bytes);
  no_longer = omega (arith, length-overlaid old at bytes);
  nothing = λ e. absurd (omega (arith, e));
}

pub cut_whole : (old : List ℕ) (n : ℕ) → Cut n old (take n old)
cut_whole old n = record { no_shorter = omega (arith, length-take n old); prefix = ends (cases_lt (length old) n) }
  where
    ends : (length old < n) ⊎ (n ≤ length old) → take (length (take n old)) old ≡ take n old
    ends (inl past) = ap (λ (l : List ℕ). take (length l) old) (take_all n old (omega arith)) ∙ take_all (length old) old (omega arith) ∙ sym (take_all n old (omega arith))
    ends (inr within) = ap (λ (k : ℕ). take k old) (let e : length (take n old) ≡ n = omega (arith, length-take n old) in e)

-- a cut may not have been done
pub cut_none : (old : List ℕ) (n : ℕ) → Cut n old old
cut_none old n = record { no_shorter = omega arith; prefix = take_all (length old) old (omega arith) }

-- the file that a read returns is one of the outcomes too
pub seen_is_image : (first : List ℕ) (all : List Deed) → IsImage first all (seen_of first all)
seen_is_image first [] = refl
seen_is_image first (Wrote at bytes ∷ earlier) = (seen_of first earlier, seen_is_image first earlier, torn_whole (seen_of first earlier) at bytes)
seen_is_image first (CutTo len ∷ earlier) = (seen_of first earlier, seen_is_image first earlier, cut_whole (seen_of first earlier) len)
seen_is_image first (Synced ∷ earlier) = refl

-- the same of a disk that returns these bytes
pub seen_is_left : (first file bytes : List ℕ) (all : List Deed) → file ≡ seen_of first (reverse all) → Some file ≡ Some bytes → Leaves first all bytes
seen_is_left first file bytes all stands is =
    let e : bytes ≡ seen_of first (reverse all) = cc in
    subst (λ (l : List ℕ). IsImage first (reverse all) l) (sym e) (seen_is_image first (reverse all))
