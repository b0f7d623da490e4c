-- The line that reports a view that fails the premise.
use Rattle.std.specs.Prelude.{ℕ, Bool, List, [], ◌∷◌, ◌++◌, codes}
use Rattle.std.specs.List.{filter}
use Rattle.lexemes.specs.Spelling.{member_words}
use Rattle.schedule_text.specs.Writing.{spaced}

-- premise VIEW reverted MEMBERS: the members of the view, and those of them that are reverted
abbrev pub premise_line : (ℕ → Bool) → List ℕ → List ℕ
premise_line reverted view = codes "premise" ++ spaced (member_words view) ++ codes " reverted" ++ spaced (member_words (filter reverted view)) ++ 10 ∷ []
