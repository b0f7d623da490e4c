-- The answers of a hasher to a string, and the strings that it keeps.
use Rattle.std.specs.Prelude.{◌≡◌, ◌≢◌, ◌+◌, ◌<◌, ◌≤◌, ℕ, List, [], ◌∷◌, ◌++◌, length, sum_by, Option, None, Some, Result, Ok, Err, All, Contains, ◌⊎◌}
use Rattle.md5.specs.Md5.{md5}
use Rattle.ens_base.specs.Causes.{Rose}
use Rattle.ens_base.specs.Lists.{AreDistinct}
use Rattle.hash_book.specs.declared.error.HashError.{HashError}
use Rattle.hash_book.specs.declared.error.HashError.TheVariants.{Clash, BookFull, Memory}

-- two different strings with the same digest
pub record IsClash (first second : List ℕ) : Type 0 where
  pub differ : first ≢ second
  pub same : md5 first ≡ md5 second

-- no kept string has the digest of these bytes: none is equal to them, and none clashes with them
abbrev pub IsNew : List (List ℕ) → List ℕ → Type 0
IsNew kept bytes = All (λ s. md5 s ≢ md5 bytes) kept

-- no string is kept twice, and no two kept strings clash
pub record IsClashFree (kept : List (List ℕ)) : Type 0 where
  pub distinct : AreDistinct kept
  pub apart : (first second : List ℕ) → Contains kept first → Contains kept second → ¬ IsClash first second

-- the different strings that a hasher keeps, the oldest first, and the number of bytes that they may
-- have in all
pub record Book : Type 0 where
  pub strings : List (List ℕ)
  pub limit : ℕ

-- the book of a hasher that keeps nothing yet
abbrev pub empty_book : ℕ → Book
empty_book limit = record { strings = []; limit = limit }

-- the same book with this string as the newest
abbrev pub with_string : List ℕ → Book → Book
with_string bytes book = record { strings = book.strings ++ bytes ∷ []; limit = book.limit }

-- the number of bytes of the strings in all
abbrev pub total : List (List ℕ) → ℕ
total xs = sum_by (λ s. length s) xs

-- the string is new to the book, and fits into it
abbrev pub Fits : List ℕ → Book → Type 0
Fits bytes book = IsNew book.strings bytes × (total book.strings + length bytes ≤ book.limit)

-- the string is new to the book, and does not fit into it
abbrev pub Exceeds : List ℕ → Book → Type 0
Exceeds bytes book = IsNew book.strings bytes × (book.limit < total book.strings + length bytes)

-- the same of a book, if known
abbrev pub ExceedsTold : List ℕ → Option Book → Type 0
ExceedsTold bytes None = Unit {0}
ExceedsTold bytes (Some book) = Exceeds bytes book

-- the number of bytes that are kept in all, if known
abbrev pub IsTotal : ℕ → Option Book → Type 0
IsTotal n None = Unit {0}
IsTotal n (Some book) = n ≡ total book.strings

-- it is known that nothing is kept
abbrev pub KeepsNothing : Option Book → Type 0
KeepsNothing kept = (limit : ℕ) × (kept ≡ Some (empty_book limit))

-- the kept strings, if known, are distinct and free of clashes
abbrev pub AreClashFree : Option Book → Type 0
AreClashFree None = Unit {0}
AreClashFree (Some book) = IsClashFree book.strings

-- the string was kept already and nothing changed, or it fits and is now kept as the newest; an
-- unknown book stays unknown
abbrev pub Takes : List ℕ → Option Book → Option Book → Type 0
Takes bytes None now = now ≡ None
Takes bytes (Some book) None = ⊥
Takes bytes (Some book) (Some now) = (Contains book.strings bytes × (now ≡ book)) ⊎ (Fits bytes book × (now ≡ with_string bytes book))

-- the book is unchanged, and known exactly if it was
abbrev pub Stays : Option Book → Option Book → Type 0
Stays kept kept_now = kept_now ≡ kept

-- the string is kept, if that is known
abbrev pub IsKept : Option Book → List ℕ → Type 0
IsKept None s = Unit {0}
IsKept (Some book) s = Contains book.strings s

-- why the string was rejected: it clashes with a kept one, or it does not fit, and then the error has
-- the number of bytes kept; either raises a count of its own, and no count falls
abbrev pub Refuses : List ℕ → Option Book → ℕ → ℕ → ℕ → ℕ → HashError → Type 0
Refuses bytes kept clashes clashes_now fulls fulls_now (Clash first second) = IsClash first.items second.items × IsKept kept first.items × (second.items ≡ bytes) × Rose clashes clashes_now × (fulls ≤ fulls_now)
Refuses bytes kept clashes clashes_now fulls fulls_now (BookFull n) = Rose fulls fulls_now × (clashes ≤ clashes_now) × ExceedsTold bytes kept × IsTotal n kept
Refuses bytes kept clashes clashes_now fulls fulls_now Memory = (clashes ≤ clashes_now) × (fulls ≤ fulls_now)

-- the string was admitted, or it was rejected and the book is unchanged
abbrev pub Admits : {T : Type 0} → List ℕ → Option Book → Option Book → ℕ → ℕ → ℕ → ℕ → Result T HashError → Type 0
Admits bytes kept kept_now clashes clashes_now fulls fulls_now (Ok x) = Takes bytes kept kept_now × (clashes ≤ clashes_now) × (fulls ≤ fulls_now)
Admits bytes kept kept_now clashes clashes_now fulls fulls_now (Err e) = Stays kept kept_now × Refuses bytes kept clashes clashes_now fulls fulls_now e
