-- What a reader of lines makes of a text, and how far a source was read.
use Rattle.std.specs.Prelude.{◌≡◌, ◌++◌, ℕ, List, [], ◌∷◌, Option, None, Some, Result, Ok, Err, IfSome}
use Rattle.lexemes.specs.Words.{parts_of}

-- A reader: what the next line makes of what was read so far, and what the end of the text makes of it and
-- of what follows the last line feed.
module _ {S R E : Type 0} (next : S → List ℕ → Result S E) (end : S → List ℕ → Result R E) where
  -- what follows, where the line was not bad
  abbrev pub and_then : Result S E → (S → Result R E) → Result R E
  and_then (Ok s) rest = rest s
  and_then (Err e) rest = Err e

  -- the parts of a text between its line feeds: all but the last are lines
  abbrev pub read_parts : S → List (List ℕ) → Result R E
  read_parts s [] = end s []
  read_parts s (rest ∷ []) = end s rest
  read_parts s (text ∷ more ∷ most) = and_then (next s text) (λ t. read_parts t (more ∷ most))

  -- a text, behind what was read so far
  abbrev pub read_text : S → List ℕ → Result R E
  read_text s text = read_parts s (parts_of 10 text)

  -- the bytes to come give this result
  abbrev pub ReadsAs : Option (List ℕ) → S → Result R E → Type 0
  ReadsAs rest s result = IfSome rest (λ bytes. read_text s bytes ≡ result)

  -- the bytes before and the bytes now, each behind what was read by then, give the same result
  abbrev pub ReadsOn : Option (List ℕ) → S → Option (List ℕ) → S → Type 0
  ReadsOn None s rest t = Unit {0}
  ReadsOn (Some old) s None t = ⊥
  ReadsOn (Some old) s (Some new) t = read_text s old ≡ read_text t new

  -- these bytes, read from the beginning, are what was read so far
  abbrev pub ComeTo : S → List ℕ → S → Type 0
  ComeTo first lines s = (rest : List ℕ) → read_text first (lines ++ rest) ≡ read_text s rest

  -- a source held the first bytes, and the last ones are left: it gave the lines so far, and the pending
  -- bytes after them
  pub record IsReading (first : S) (bytes pending left : List ℕ) (s : S) : Type 0 where
    pub lines : List ℕ
    pub are : bytes ≡ lines ++ (pending ++ left)
    pub good : ComeTo first lines s

  -- the same if the bytes are known
  abbrev pub HasTaken : S → Option (List ℕ) → List ℕ → Option (List ℕ) → S → Type 0
  HasTaken first None pending left s = Unit {0}
  HasTaken first (Some bytes) pending None s = ⊥
  HasTaken first (Some bytes) pending (Some left) s = IsReading first bytes pending left s
