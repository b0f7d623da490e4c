-- How the words of a command line are split: a verb, and the words behind it.
use Rattle.std.specs.Prelude.{◌≡◌, ◌==◌, ℕ, Bool, false, List, [], ◌∷◌, codes, slice_get, Option, Some, None, option_map}
use Rattle.std.specs.List.{list_any}
use Rattle.clap.specs.Words.{first_value, found_of, matched_of, raw_values}
use Rattle.clap.specs.declared.parser.matches.ArgMatches.{ArgMatches}

-- the word begins with `-` (45)
abbrev pub is_option : List ℕ → Bool
is_option [] = false
is_option (b ∷ bs) = b == 45

-- a word begins with `-`
abbrev pub has_option : List (List ℕ) → Bool
has_option words = list_any is_option words

-- the words behind the first one, if there are any
abbrev pub rest_of : List (List ℕ) → Option (List (List ℕ))
rest_of (verb ∷ next ∷ more) = Some (next ∷ more)
rest_of _ = None

-- the matches have the first of the words as the verb, and those behind it as the rest
pub record Splits (m : ArgMatches) (words : List (List ℕ)) : Type 0 where
  pub verb : first_value (found_of m) (codes "verb") ≡ slice_get words 0
  pub rest : option_map raw_values (matched_of (found_of m) (codes "rest")) ≡ rest_of words
