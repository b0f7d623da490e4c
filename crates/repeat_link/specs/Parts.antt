-- The parts of a frame.
use Rattle.std.specs.Prelude.{ℕ, zero, suc, ◌+◌, ◌*◌, ◌/◌, max, List, [], ◌∷◌, ◌++◌, length, take, drop, Option, None, Some, slice_set, replicate, ◌==◌, ◌&&◌, if◌then◌else◌}
use Rattle.std.specs.Option.{option_map}

-- how many parts of at most 1,400 bytes a frame goes in
abbrev pub part_count : List ℕ → ℕ
part_count frame = max ((length frame + 1399) / 1400) 1

-- the part of this place
abbrev pub part_at : ℕ → List ℕ → List ℕ
part_at place frame = take 1400 (drop (place * 1400) frame)

-- the first parts of a frame
abbrev pub parts_of : ℕ → List ℕ → List (List ℕ)
parts_of zero frame = []
parts_of (suc n) frame = take 1400 frame ∷ parts_of n (drop 1400 frame)

-- the frame that all parts make up, if none lacks
abbrev pub whole : List (Option (List ℕ)) → Option (List ℕ)
whole [] = Some []
whole (None ∷ parts) = None
whole (Some part ∷ parts) = option_map (λ rest. part ++ rest) (whole parts)

-- a frame of which parts came: its number, and each part that did
pub record Partial : Type 0 where
  pub number : ℕ
  pub parts : List (Option (List ℕ))

-- the parts that came of the frame of this number, which goes in so many
abbrev pub parts_for : Partial → ℕ → ℕ → List (Option (List ℕ))
parts_for p number count = if p.number == number && length p.parts == count then p.parts else replicate count None

-- one more part came
abbrev pub with_part : Partial → ℕ → ℕ → ℕ → List ℕ → Partial
with_part p number place count part = record { number = number; parts = slice_set (parts_for p number count) place (Some part) }
