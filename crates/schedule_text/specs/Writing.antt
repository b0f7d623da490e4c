-- Words behind a first one, and lines, as they are written.
use Rattle.std.specs.Prelude.{ℕ, List, [], ◌∷◌, ◌++◌}
use Rattle.std.specs.List.{flat_map}

-- words, each behind a space
abbrev pub spaced : List (List ℕ) → List ℕ
spaced words = flat_map (λ word. 32 ∷ word) words

-- a line, with its line feed
abbrev pub feed : List ℕ → List ℕ
feed text = text ++ 10 ∷ []

-- lines, each with its line feed
abbrev pub feeds : List (List ℕ) → List ℕ
feeds lines = flat_map feed lines
