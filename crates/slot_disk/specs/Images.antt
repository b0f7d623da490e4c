-- The images of a crash that a disk in memory builds, and the effect of one more call on the file
-- and on an image.
use Rattle.std.specs.Prelude.{◌≡◌, ℕ, ◌+◌, ◌-◌, ◌/◌, List, [], ◌∷◌, ◌++◌, length, take, replicate, reverse}
use Rattle.slot_disk.specs.Crash.{overlaid, written}
use Rattle.slot_disk.specs.Steps.{Deed, Wrote, CutTo, Synced, deeds, seen_of}
use Rattle.slot_disk.specs.declared.image.Image.{Image}
use Rattle.slot_disk.specs.declared.image.Image.TheVariants as images
use Rattle.slot_disk.specs.declared.step.Step.{Step}

-- how many bytes of a write of n bytes an image keeps
abbrev pub new_part : Image → ℕ → ℕ
new_part images.Old n = 0
new_part images.New n = n
new_part images.Half n = n / 2

-- the file, extended with zeros up to this length
abbrev pub filled : List ℕ → ℕ → List ℕ
filled file end = file ++ replicate (end - length file) 0

-- after a write of which a crash keeps the first `part` bytes: the others are old, with zeros past
-- the old end
abbrev pub partly_written : List ℕ → ℕ → List ℕ → ℕ → List ℕ
partly_written old at [] part = old
partly_written old at (byte ∷ bytes) part = overlaid (filled old (at + length (byte ∷ bytes))) at (take part (byte ∷ bytes))

-- after a cut, which the old image does not keep
abbrev pub cut_in : Image → List ℕ → ℕ → List ℕ
cut_in images.Old old n = old
cut_in images.New old n = take n old
cut_in images.Half old n = take n old

-- the image that a crash leaves after these calls, given newest first
abbrev pub image_after : Image → List ℕ → List Deed → List ℕ
image_after image first [] = first
image_after image first (Wrote at bytes ∷ earlier) = partly_written (image_after image first earlier) at bytes (new_part image (length bytes))
image_after image first (CutTo n ∷ earlier) = cut_in image (image_after image first earlier) n
image_after image first (Synced ∷ earlier) = seen_of first earlier

-- the image that a crash leaves after these calls, given oldest first
abbrev pub image_of : Image → List ℕ → List Deed → List ℕ
image_of image first all = image_after image first (reverse all)

-- the call is applied to the file that a read returns, and to the image
abbrev pub Advances : Image → Deed → (solid left solid_after left_after : List ℕ) → Type 0
Advances image (Wrote at bytes) solid left solid_after left_after = (solid_after ≡ written solid at bytes) × (left_after ≡ partly_written left at bytes (new_part image (length bytes)))
Advances image (CutTo n) solid left solid_after left_after = (solid_after ≡ take n solid) × (left_after ≡ cut_in image left n)
Advances image Synced solid left solid_after left_after = (solid_after ≡ solid) × (left_after ≡ solid)

-- the file that a read returns and the image of a crash, after these steps
pub record IsReplayed (image : Image) (first log : List ℕ) (taken : List Step) (solid left : List ℕ) : Type 0 where
  pub is_solid : solid ≡ seen_of first (reverse (deeds log taken))
  pub is_left : left ≡ image_of image first (deeds log taken)
