-- The words of a line behind its first: so many of them, and none empty.
use Rattle.std.specs.Prelude.{ℕ, Bool, ◌==◌, if◌then◌else◌, List, [], ◌∷◌, length, Result, Ok, Err}
use Rattle.std.specs.List.{list_any}
use Rattle.lexemes.specs.declared.cause.Cause.{Cause}
use Rattle.lexemes.specs.declared.cause.Cause.TheVariants.{Words}

-- whether a word is empty
abbrev pub has_empty : List (List ℕ) → Bool
has_empty words = list_any (λ word. length word == 0) words

-- no word
abbrev pub none_of : List (List ℕ) → Result (Unit {0}) Cause
none_of [] = Ok tt
none_of _ = Err Words

-- one word
abbrev pub one_of : List (List ℕ) → Result (List ℕ) Cause
one_of (a ∷ []) = if has_empty (a ∷ []) then Err Words else Ok a
one_of _ = Err Words

-- two words
abbrev pub two_of : List (List ℕ) → Result (List ℕ × List ℕ) Cause
two_of (a ∷ b ∷ []) = if has_empty (a ∷ b ∷ []) then Err Words else Ok (a, b)
two_of _ = Err Words

-- three words
abbrev pub three_of : List (List ℕ) → Result (List ℕ × List ℕ × List ℕ) Cause
three_of (a ∷ b ∷ c ∷ []) = if has_empty (a ∷ b ∷ c ∷ []) then Err Words else Ok (a, b, c)
three_of _ = Err Words

-- four words
abbrev pub four_of : List (List ℕ) → Result (List ℕ × List ℕ × List ℕ × List ℕ) Cause
four_of (a ∷ b ∷ c ∷ d ∷ []) = if has_empty (a ∷ b ∷ c ∷ d ∷ []) then Err Words else Ok (a, b, c, d)
four_of _ = Err Words

-- one word or more
abbrev pub some_of : List (List ℕ) → Result (List (List ℕ)) Cause
some_of [] = Err Words
some_of (a ∷ more) = if has_empty (a ∷ more) then Err Words else Ok (a ∷ more)

-- a word and one more at least
abbrev pub first_of : List (List ℕ) → Result (List ℕ × List (List ℕ)) Cause
first_of (a ∷ b ∷ more) = if has_empty (a ∷ b ∷ more) then Err Words else Ok (a, b ∷ more)
first_of _ = Err Words
