-- The records of a file, one after the other.
use Rattle.std.proofs.Common.{◌≡◌, ℕ, zero, suc, ◌<◌, ◌≤◌, ◌^◌, List, [], ◌∷◌, ◌++◌, length, take, drop, Option, None, Some, refl, sym, ap, ◌∙◌, arith, length-append, append_assoc, append-nil}
use Rattle.std.specs.Prelude.{All}
use Rattle.std.proofs.lemmas.List.{take-append-drop, length-drop}
use Rattle.std.proofs.lemmas.List.Elements.{All-head, All-tail}
use Rattle.environment.specs.Maps.{Entries, with_value}
use Rattle.disk_stores.specs.Records.{Prefix, prefix_of, and_then, first_records, records_of, with_records, entries_of, IsWhole, record_bytes, FitsRecord, file_of}
use Rattle.disk_stores.proofs.Prefixes.{chunk_of, none_is_some, record_reads}

pub prefix_shrinks : (bytes : List ℕ) (r : Prefix) → prefix_of bytes ≡ Some r → length r.rest < length bytes
prefix_shrinks bytes r is =
    let c = chunk_of bytes r is in
    omega (arith, ap length c.split, length-append c.chunk r.rest, c.size)

-- a greater number than there are bytes changes nothing
pub same_records : (n m : ℕ) (bytes : List ℕ) → length bytes ≤ n → length bytes ≤ m → first_records n bytes ≡ first_records m bytes
same_records zero zero bytes p q = refl
same_records zero (suc m) [] p q = refl
same_records zero (suc m) (b ∷ bs) p q = absurd (omega (arith, p))
same_records (suc n) zero [] p q = refl
same_records (suc n) zero (b ∷ bs) p q = absurd (omega (arith, q))
same_records (suc n) (suc m) bytes p q = by (prefix_of bytes) refl (λ rest. same_records n m rest)
  where
    by : (o : Option Prefix) → prefix_of bytes ≡ o → ((rest : List ℕ) → length rest ≤ n → length rest ≤ m → first_records n rest ≡ first_records m rest)
        → and_then o (first_records n) ≡ and_then o (first_records m)
    by None is later = refl
    by (Some r) is later =
        let less = prefix_shrinks bytes r is in
        ap (λ (l : Entries). (r.name, r.content) ∷ l) (later r.rest (omega (arith, less, p)) (omega (arith, less, q)))

pub records_none : (bytes : List ℕ) → prefix_of bytes ≡ None → records_of bytes ≡ []
records_none [] is = refl
records_none (b ∷ bs) is = ap (λ (o : Option Prefix). and_then o (first_records (length bs))) is

pub records_next : (bytes : List ℕ) (r : Prefix) → prefix_of bytes ≡ Some r → records_of bytes ≡ (r.name, r.content) ∷ records_of r.rest
records_next [] r is = absurd (none_is_some r is)
records_next (b ∷ bs) r is =
    let less = prefix_shrinks (b ∷ bs) r is in
    ap (λ (o : Option Prefix). and_then o (first_records (length bs))) is
    ∙ ap (λ (l : Entries). (r.name, r.content) ∷ l) (same_records (length bs) (length r.rest) r.rest (omega (arith, less)) (omega arith))

-- these bytes are read as this record, whatever follows them
abbrev pub ReadsAs : List ℕ → (name content : List ℕ) → Type 0
ReadsAs chunk name content = (rest : List ℕ) → prefix_of (chunk ++ rest) ≡ Some (record { name = name; content = content; rest = rest })

pub records_one : (chunk name content rest : List ℕ) → ReadsAs chunk name content → records_of (chunk ++ rest) ≡ (name, content) ∷ records_of rest
records_one chunk name content rest reads = records_next (chunk ++ rest) (record { name = name; content = content; rest = rest }) (reads rest)

-- whole records, and one more
pub records_more : (prefix chunk name content : List ℕ) → IsWhole prefix → ReadsAs chunk name content → records_of (prefix ++ chunk) ≡ records_of prefix ++ (name, content) ∷ []
records_more prefix chunk name content whole reads =
    whole chunk ∙ ap (λ (l : Entries). records_of prefix ++ l) (ap records_of (sym (append-nil chunk)) ∙ records_one chunk name content [] reads)

pub whole_more : (prefix chunk name content : List ℕ) → IsWhole prefix → ReadsAs chunk name content → IsWhole (prefix ++ chunk)
whole_more prefix chunk name content whole reads rest =
    ap records_of (append_assoc prefix chunk rest)
    ∙ whole (chunk ++ rest)
    ∙ ap (λ (l : Entries). records_of prefix ++ l) (records_one chunk name content rest reads)
    ∙ sym (append_assoc (records_of prefix) ((name, content) ∷ []) (records_of rest))
    ∙ ap (λ (l : Entries). l ++ records_of rest) (sym (records_more prefix chunk name content whole reads))

with_more : (es rs : Entries) (name content : List ℕ) → with_records es (rs ++ (name, content) ∷ []) ≡ with_value name content (with_records es rs)
with_more es [] name content = refl
with_more es (r ∷ rs) name content = with_more (with_value r.0 r.1 es) rs name content

pub entries_more : (prefix chunk name content : List ℕ) → IsWhole prefix → ReadsAs chunk name content → entries_of (prefix ++ chunk) ≡ with_value name content (entries_of prefix)
entries_more prefix chunk name content whole reads =
    ap (with_records []) (records_more prefix chunk name content whole reads) ∙ with_more [] (records_of prefix) name content

-- what follows whole records and is no record changes nothing
pub entries_end : (prefix rest : List ℕ) → IsWhole prefix → prefix_of rest ≡ None → entries_of (prefix ++ rest) ≡ entries_of prefix
entries_end prefix rest whole none =
    ap (with_records []) (whole rest ∙ ap (λ (l : Entries). records_of prefix ++ l) (records_none rest none) ∙ append-nil (records_of prefix))

-- more bytes after a record change only what follows it
pub prefix_grows : (bytes more : List ℕ) (r : Prefix) → prefix_of bytes ≡ Some r → prefix_of (bytes ++ more) ≡ Some (record { name = r.name; content = r.content; rest = r.rest ++ more })
prefix_grows bytes more r is =
    let c = chunk_of bytes r is in
    ap (λ (l : List ℕ). prefix_of (l ++ more)) c.split ∙ ap prefix_of (append_assoc c.chunk r.rest more) ∙ c.reads (r.rest ++ more)

-- what is no record is none when it is cut
pub prefix_cut : (bytes : List ℕ) (n : ℕ) → prefix_of bytes ≡ None → prefix_of (take n bytes) ≡ None
prefix_cut bytes n none = by (prefix_of (take n bytes)) refl
  where
    by : (o : Option Prefix) → prefix_of (take n bytes) ≡ o → prefix_of (take n bytes) ≡ None
    by None is = is
    by (Some r) is = absurd (none_is_some _ (sym none ∙ ap prefix_of (sym (take-append-drop n bytes)) ∙ prefix_grows (take n bytes) (drop n bytes) r is))

abbrev rest_of : Option Prefix → List ℕ
rest_of None = []
rest_of (Some r) = r.rest

-- nor is a prefix of a spelled record a record
pub spelling_cut : (name content : List ℕ) (n : ℕ) → length name ≤ 255 → length content < 2 ^ 64 → n < length (record_bytes name content) → prefix_of (take n (record_bytes name content)) ≡ None
spelling_cut name content n short small less = by (prefix_of (take n (record_bytes name content))) refl
  where
    by : (o : Option Prefix) → prefix_of (take n (record_bytes name content)) ≡ o → prefix_of (take n (record_bytes name content)) ≡ None
    by None is = is
    by (Some r) is =
        let bytes = record_bytes name content in
        let all : prefix_of bytes ≡ Some (record { name = name; content = content; rest = [] }) = ap prefix_of (sym (append-nil bytes)) ∙ record_reads name content [] short small in
        let grown : prefix_of bytes ≡ Some (record { name = r.name; content = r.content; rest = r.rest ++ drop n bytes }) = ap prefix_of (sym (take-append-drop n bytes)) ∙ prefix_grows (take n bytes) (drop n bytes) r is in
        let none : r.rest ++ drop n bytes ≡ [] = ap rest_of (sym grown ∙ all) in
        absurd (omega (arith, ap length none, length-append r.rest (drop n bytes), length-drop n bytes, less))

-- the records of puts are read again, whatever follows them
pub puts_read : (puts : Entries) (rest : List ℕ) → All FitsRecord puts → records_of (file_of puts ++ rest) ≡ puts ++ records_of rest
puts_read [] rest fit = refl
puts_read (r ∷ rs) rest fit =
    let fits : FitsRecord r = All-head FitsRecord r rs fit in
    ap records_of (append_assoc (record_bytes r.0 r.1) (file_of rs) rest)
    ∙ records_one (record_bytes r.0 r.1) r.0 r.1 (file_of rs ++ rest) (λ more. record_reads r.0 r.1 more fits.0 fits.1)
    ∙ ap (λ (l : Entries). (r.0, r.1) ∷ l) (puts_read rs rest (All-tail FitsRecord r rs fit))
