-- The fixed words of a script.
use Rattle.std.specs.Prelude.{ℕ, List, [], ◌∷◌, codes, find, Option, Some, None}
use Rattle.ens_base.specs.Lists.{same_bytes}
use Rattle.lexemes.specs.declared.cause.Cause.{Cause}
use Rattle.lexemes.specs.declared.cause.Cause.TheVariants.{Unknown, Words}
use Rattle.scripts.specs.declared.keyword.Keyword.{Keyword}
use Rattle.scripts.specs.declared.keyword.Keyword.TheVariants.{At, Open, Look, Route}

-- the first word of each line
abbrev pub keyword_word : Keyword → List ℕ
keyword_word At = codes "at"
keyword_word Open = codes "open"
keyword_word Look = codes "look"
keyword_word Route = codes "route"

-- every keyword
abbrev pub keywords : List Keyword
keywords = At ∷ Open ∷ Look ∷ Route ∷ []

-- the keyword that a word is, if it is one
abbrev pub keyword_of : List ℕ → Option Keyword
keyword_of word = find (λ k. same_bytes (keyword_word k) word) keywords

-- what is wrong with a line of one word, which is this keyword or none
abbrev pub lone_cause : Option Keyword → Cause
lone_cause (Some keyword) = Words
lone_cause None = Unknown
