-- Words in memory, as the bytes that they are.
use Rattle.std.specs.Prelude.{ℕ, List, map, Result, Ok, Err}
use Rattle.std.specs.Borrow.{Bor}
use Rattle.lexemes.specs.declared.cause.Cause.{Cause}

-- a word in memory
abbrev pub Word : Type 0
Word = Bor (List ℕ)

-- the bytes of words
abbrev pub texts : List Word → List (List ℕ)
texts words = map (λ word. word.now) words

-- the bytes of the word, if there is one
abbrev pub one_text : Result Word Cause → Result (List ℕ) Cause
one_text (Ok a) = Ok a.now
one_text (Err cause) = Err cause

-- the bytes of both words
abbrev pub two_texts : Result (Word × Word) Cause → Result (List ℕ × List ℕ) Cause
two_texts (Ok x) = Ok (x.0.now, x.1.now)
two_texts (Err cause) = Err cause

-- the bytes of three words
abbrev pub three_texts : Result (Word × Word × Word) Cause → Result (List ℕ × List ℕ × List ℕ) Cause
three_texts (Ok x) = Ok (x.0.now, x.1.now, x.2.now)
three_texts (Err cause) = Err cause

-- the bytes of four words
abbrev pub four_texts : Result (Word × Word × Word × Word) Cause → Result (List ℕ × List ℕ × List ℕ × List ℕ) Cause
four_texts (Ok x) = Ok (x.0.now, x.1.now, x.2.now, x.3.now)
four_texts (Err cause) = Err cause

-- the bytes of some words
abbrev pub some_texts : Result (Bor (List Word)) Cause → Result (List (List ℕ)) Cause
some_texts (Ok words) = Ok (texts words.now)
some_texts (Err cause) = Err cause

-- the bytes of a word and of those behind it
abbrev pub first_texts : Result (Word × Bor (List Word)) Cause → Result (List ℕ × List (List ℕ)) Cause
first_texts (Ok x) = Ok (x.0.now, texts x.1.now)
first_texts (Err cause) = Err cause
