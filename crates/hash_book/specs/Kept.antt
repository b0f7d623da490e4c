-- The strings of a book, and the exact answers of a book.
use Rattle.std.specs.Prelude.{◌≡◌, ◌⊎◌, ℕ, List, map, All, Vec, Contains, Result, Ok, Err}
use Rattle.std.specs.declared.alloc.Global.{Global}
use Rattle.md5.specs.Md5.{md5}
use Rattle.hash_book.specs.Hashing.{Book, Exceeds, Fits, IsClash, total}
use Rattle.hash_book.specs.declared.error.HashError.{HashError}
use Rattle.hash_book.specs.declared.error.HashError.TheVariants.{Clash, BookFull, Memory}
use Rattle.ens_base.specs.Causes.{counted}

-- the entries of the map: pairs of a digest and the string that has it
abbrev pub Entries : Type 0
Entries = List (List ℕ × Vec ℕ Global)

abbrev pub strings_of : Entries → List (List ℕ)
strings_of es = map (λ e. e.1.items) es

-- each string is stored under its own digest
abbrev pub IsKeyed : Entries → Type 0
IsKeyed es = All (λ e. e.0 ≡ md5 e.1.items) es

-- what a book tells of its entries and its limit
abbrev pub book_of : Entries → ℕ → Book
book_of es limit = record { strings = strings_of es; limit = limit }

-- the answer of a book: a kept string is admitted, a string that clashes with a kept one is
-- rejected, and a new string is admitted exactly if it fits
abbrev pub BookAnswers : {T : Type 0} → Book → List ℕ → Result T HashError → Type 0
BookAnswers book bytes (Ok x) = Contains book.strings bytes ⊎ Fits bytes book
BookAnswers book bytes (Err (Clash first second)) = Contains book.strings first.items × IsClash first.items bytes × (second.items ≡ bytes)
BookAnswers book bytes (Err (BookFull n)) = Exceeds bytes book × (n ≡ total book.strings)
BookAnswers book bytes (Err Memory) = Unit {0}

-- each rejection is counted once, under its own cause
abbrev pub Counts : {T : Type 0} → ℕ → ℕ → ℕ → ℕ → Result T HashError → Type 0
Counts clashes clashes_now fulls fulls_now (Err (Clash first second)) = (clashes_now ≡ counted clashes) × (fulls_now ≡ fulls)
Counts clashes clashes_now fulls fulls_now (Err (BookFull n)) = (clashes_now ≡ clashes) × (fulls_now ≡ counted fulls)
Counts clashes clashes_now fulls fulls_now answer = (clashes_now ≡ clashes) × (fulls_now ≡ fulls)
