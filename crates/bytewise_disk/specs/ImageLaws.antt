-- The laws of a disk that records its calls and of whose writes a crash leaves each byte old or new.
use Rattle.std.proofs.Common.{◌≡◌, inr, ℕ, ◌≤◌, List, [], ◌∷◌, length, reverse, Some, refl, sym, subst, arith}
use Rattle.std.proofs.lemmas.List.{take_all}
use Rattle.slot_disk.specs.Crash.{written}
use Rattle.slot_disk.specs.Outcomes.{torn_whole, cut_whole}
use Rattle.slot_disk.specs.Steps.{Deed, Wrote, CutTo, Synced, seen_of}
use Rattle.bytewise_disk.specs.Mix.{Mixed}
use Rattle.bytewise_disk.specs.Images.{IsImage, Leaves, LeftSince}

-- what a crash may leave now counts as left since each earlier moment
pub left_now : (first : List ℕ) (all : List Deed) (t : ℕ) (c : List ℕ) → t ≤ length all → Leaves first all c → LeftSince first all t c
left_now first all t c le now = (length all, le, omega arith, subst (λ (l : List Deed). Leaves first l c) (sym (take_all (length all) all (omega arith))) now)

-- no moment but the present one lies since the present one
pub now_left : (first : List ℕ) (all : List Deed) (c : List ℕ) → LeftSince first all (length all) c → Leaves first all c
now_left first all c left = subst (λ (l : List Deed). Leaves first l c) (take_all left.0 all left.1) left.3

-- a write that is whole is one of the outcomes
pub mixed_whole : (old : List ℕ) (at : ℕ) (bytes : List ℕ) → Mixed at bytes old (written old at bytes)
mixed_whole old at bytes = record { each = λ i. inr refl }

-- the file that a read returns is one of the outcomes
pub seen_is_image : (first : List ℕ) (all : List Deed) → IsImage first all (seen_of first all)
seen_is_image first [] = refl
seen_is_image first (Wrote at bytes ∷ earlier) = let old = seen_of first earlier in (old, seen_is_image first earlier, torn_whole old at bytes, mixed_whole old at bytes)
seen_is_image first (CutTo len ∷ earlier) = (seen_of first earlier, seen_is_image first earlier, cut_whole (seen_of first earlier) len)
seen_is_image first (Synced ∷ earlier) = refl

-- the same of a disk that returns these bytes
pub seen_is_left : (first file bytes : List ℕ) (all : List Deed) → file ≡ seen_of first (reverse all) → Some file ≡ Some bytes → Leaves first all bytes
seen_is_left first file bytes all stands is =
    let e : bytes ≡ seen_of first (reverse all) = cc in
    subst (λ (l : List ℕ). IsImage first (reverse all) l) (sym e) (seen_is_image first (reverse all))
