-- What a crash leaves after one more call of a disk that records its calls.
use Rattle.std.proofs.Common.{◌≡◌, ◌⊎◌, inl, inr, ℕ, ◌+◌, ◌<◌, ◌≤◌, List, [], ◌∷◌, ◌++◌, length, take, reverse, refl, sym, ◌∙◌, ap, subst, arith, length-append}
use Rattle.std.proofs.lemmas.List.{take_all, take-append-le, reverse-append}
use Rattle.std.proofs.lemmas.Bool.{cases_lt}
use Rattle.slot_disk.specs.Crash.{written, Cut, Elapses}
use Rattle.slot_disk.specs.Images.{new_part, partly_written, cut_in, image_after, image_of, Advances, IsReplayed}
use Rattle.slot_disk.specs.declared.image.Image.{Image}
use Rattle.slot_disk.specs.declared.image.Image.TheVariants as images
use Rattle.slot_disk.proofs.Files.{partly_torn}
use Rattle.slot_disk.specs.Outcomes.{cut_whole, cut_none, seen_is_image}
use Rattle.slot_disk.specs.declared.step.Step.{Step}
use Rattle.slot_disk.proofs.Recorded.{deeds_push}
use Rattle.slot_disk.specs.Steps.{deeds, deed_of, Deed, Wrote, CutTo, Synced, seen_of, IsImage, Leaves, LeftSince}

-- time after one more call
pub elapses : (first later : List ℕ) (old new : List Deed) (d : Deed) → later ≡ first → new ≡ old ++ d ∷ [] → Elapses (length old) (length new) (LeftSince first old) (LeftSince later new) (Leaves later new)
elapses first later old new d same is =
    subst (λ (f : List ℕ). Elapses (length old) (length new) (LeftSince first old) (LeftSince f new) (Leaves f new)) (sym same)
    (subst (λ (l : List Deed). Elapses (length old) (length l) (LeftSince first old) (LeftSince first l) (Leaves first l)) (sym is) (record {
      later = omega (arith, length-append old (d ∷ []));
      nothing_else = λ t c le left. by t c left (cases_lt (length old) left.0);
      keeps = λ t c le left. (left.0, left.1, omega (arith, left.2, length-append old (d ∷ [])), subst (λ (l : List Deed). Leaves first l c) (sym (take-append-le left.0 old (d ∷ []) left.2)) left.3);
    }))
  where
    by : (t : ℕ) (c : List ℕ) (left : LeftSince first (old ++ d ∷ []) t c) → (length old < left.0) ⊎ (left.0 ≤ length old) → LeftSince first old t c ⊎ Leaves first (old ++ d ∷ []) c
    by t c left (inl more) = inr (subst (λ (l : List Deed). Leaves first l c) (take_all left.0 (old ++ d ∷ []) (omega (arith, length-append old (d ∷ [])))) left.3)
    by t c left (inr le) = inl (left.0, left.1, le, subst (λ (l : List Deed). Leaves first l c) (take-append-le left.0 old (d ∷ []) le) left.3)

-- after a sync a crash leaves nothing new
pub sync_leaves : (first later : List ℕ) (old new : List Deed) → later ≡ first → new ≡ old ++ Synced ∷ [] → (c : List ℕ) → Leaves later new c → Leaves first old c
sync_leaves first later old new same is c left =
    let on_push : Leaves first (old ++ Synced ∷ []) c = subst (λ (l : List Deed). Leaves first l c) is (subst (λ (f : List ℕ). Leaves f new c) same left) in
    let turned : IsImage first (Synced ∷ reverse old) c = subst (λ (l : List Deed). IsImage first l c) (reverse-append old (Synced ∷ [])) on_push in
    subst (λ (b : List ℕ). IsImage first (reverse old) b) (sym turned) (seen_is_image first (reverse old))

part_within : (image : Image) (n : ℕ) → new_part image n ≤ n
part_within images.Old n = omega arith
part_within images.New n = omega arith
part_within images.Half n = omega arith

cut_possible : (image : Image) (old : List ℕ) (n : ℕ) → Cut n old (cut_in image old n)
cut_possible images.Old old n = cut_none old n
cut_possible images.New old n = cut_whole old n
cut_possible images.Half old n = cut_whole old n

after_possible : (image : Image) (first : List ℕ) (all : List Deed) → IsImage first all (image_after image first all)
after_possible image first [] = refl
after_possible image first (Wrote at bytes ∷ earlier) =
    (image_after image first earlier, after_possible image first earlier, partly_torn (image_after image first earlier) bytes at (new_part image (length bytes)) (part_within image (length bytes)))
after_possible image first (CutTo n ∷ earlier) = (image_after image first earlier, after_possible image first earlier, cut_possible image (image_after image first earlier) n)
after_possible image first (Synced ∷ earlier) = refl

-- each image is one that a crash may leave
pub image_possible : (image : Image) (first : List ℕ) (all : List Deed) (left : List ℕ) → left ≡ image_of image first all → Leaves first all left
image_possible image first all left is = subst (λ (c : List ℕ). Leaves first all c) (sym is) (after_possible image first (reverse all))

-- one more call
advanced : (image : Image) (first : List ℕ) (all : List Deed) (d : Deed) (solid left solid_after left_after : List ℕ) → solid ≡ seen_of first all → left ≡ image_after image first all → Advances image d solid left solid_after left_after
    → (solid_after ≡ seen_of first (d ∷ all)) × (left_after ≡ image_after image first (d ∷ all))
advanced image first all (Wrote at bytes) solid left solid_after left_after is image_is by =
    (by.0 ∙ ap (λ (l : List ℕ). written l at bytes) is, by.1 ∙ ap (λ (l : List ℕ). partly_written l at bytes (new_part image (length bytes))) image_is)
advanced image first all (CutTo n) solid left solid_after left_after is image_is by = (by.0 ∙ ap (λ (l : List ℕ). take n l) is, by.1 ∙ ap (λ (l : List ℕ). cut_in image l n) image_is)
advanced image first all Synced solid left solid_after left_after is image_is by = (by.0 ∙ is, by.1 ∙ is)

pub replayed : (image : Image) (first log : List ℕ) (items : List Step) (i : ℕ) (s : Step) (solid left solid_after left_after : List ℕ) → take (i + 1) items ≡ take i items ++ s ∷ []
    → IsReplayed image first log (take i items) solid left → Advances image (deed_of log s) solid left solid_after left_after → IsReplayed image first log (take (i + 1) items) solid_after left_after
replayed image first log items i s solid left solid_after left_after more before by =
    let all = deeds log (take i items) in
    let turned : reverse (deeds log (take (i + 1) items)) ≡ deed_of log s ∷ reverse all =
    ap (λ (l : List Step). reverse (deeds log l)) more ∙ ap (λ (l : List Deed). reverse l) (deeds_push log (take i items) s) ∙ reverse-append all (deed_of log s ∷ []) in
    let after = advanced image first (reverse all) (deed_of log s) solid left solid_after left_after before.is_solid before.is_left by in
    record {
      is_solid = after.0 ∙ ap (λ (l : List Deed). seen_of first l) (sym turned);
      is_left = after.1 ∙ ap (λ (l : List Deed). image_after image first l) (sym turned);
    }
