-- What reading a word gives: the value that it spells, or the cause for which it is refused.
use Rattle.std.specs.Prelude.{ℕ, ◌+◌, ◌-◌, ◌^◌, Bool, not, ◌==◌, ◌&&◌, ◌||◌, min, nat_le, nat_lt, if◌then◌else◌, List, [], ◌∷◌, length, slice_index, codes, Option, Some, None, Result, Ok, Err}
use Rattle.std.specs.List.{list_any, slice_split}
use Rattle.std.specs.Char.{is_ascii_uppercase}
use Rattle.std.specs.Str.{all_ascii_digits}
use Rattle.std.specs.Str.Parse.{digits_value}
use Rattle.std.specs.Result.{result_ok}
use Rattle.hex.specs.Hex.{decode_of}
use Rattle.ens_base.specs.Lists.{same_bytes}
use Rattle.ens_base.specs.declared.epoch.Version.{Version}
use Rattle.ens_base.specs.Results.{◌>>=◌}
use Rattle.lexemes.specs.Causes.{or_cause}
use Rattle.lexemes.specs.declared.cause.Cause.{Cause}
use Rattle.lexemes.specs.declared.cause.Cause.TheVariants.{Number, Bytes, Peers}

-- the parts of a text between the bytes `at`
abbrev pub parts_of : ℕ → List ℕ → List (List ℕ)
parts_of at text = slice_split (λ b. b == at) text

-- the words of a line: what single spaces part
abbrev pub words_of : List ℕ → List (List ℕ)
words_of line = parts_of 32 line

-- decimal digits, with no zero in front of another digit
abbrev pub is_numeral : List ℕ → Bool
is_numeral word = all_ascii_digits word && nat_lt 0 (length word) && (not (slice_index word 0 == 48) || length word == 1)

-- the number, where the word is a numeral from low to high
abbrev pub number_within : ℕ → ℕ → List ℕ → Option ℕ
number_within low high word =
    if is_numeral word && nat_le low (digits_value 10 word) && nat_le (digits_value 10 word) high then Some (digits_value 10 word)
    else None

-- a number from low to high
abbrev pub number_of : ℕ → ℕ → List ℕ → Result ℕ Cause
number_of low high word = or_cause Number (number_within low high word)

-- a peer, from 1 to the number of peers
abbrev pub peer_of : ℕ → List ℕ → Result ℕ Cause
peer_of peers word = or_cause Peers (number_within 1 peers word)

-- bytes, where there are low to high of them
abbrev pub with_length : ℕ → ℕ → Option (List ℕ) → Option (List ℕ)
with_length low high None = None
with_length low high (Some bytes) = if nat_le low (length bytes) && nat_le (length bytes) high then Some bytes else None

-- low to high bytes, where the word is pairs of lower-case hexadecimal digits
abbrev pub bytes_within : ℕ → ℕ → List ℕ → Option (List ℕ)
bytes_within low high word =
    if list_any is_ascii_uppercase word then None else with_length low high (result_ok (decode_of word))

-- a key: 1 to 64 bytes
abbrev pub key_of : List ℕ → Result (List ℕ) Cause
key_of word = or_cause Bytes (bytes_within 1 64 word)

-- a value: a dash for none, or 1 to 1,024 bytes
abbrev pub value_of : List ℕ → Result (List ℕ) Cause
value_of word = if same_bytes word (codes "-") then Ok [] else or_cause Bytes (bytes_within 1 1024 word)

-- raw bytes for a store: 1 to 2,000, or a dash
abbrev pub content_of : List ℕ → Result (Option (List ℕ)) Cause
content_of word = if same_bytes word (codes "-") then Ok None else or_cause Bytes (bytes_within 1 2000 word) >>= λ bytes. Ok (Some bytes)

-- a version: its count, its proposer and its seq
abbrev pub version_from : List ℕ → List ℕ → List ℕ → Result Version Cause
version_from c p s = do
  count ← number_of 0 (2 ^ 64 - 1) c
  proposer ← number_of 0 (2 ^ 32 - 1) p
  seq ← number_of 0 (2 ^ 64 - 1) s
  Ok (record { epoch = record { count = count; proposer = proposer }; seq = seq })

-- a version, from its three parts
abbrev pub version_of_parts : List (List ℕ) → Result Version Cause
version_of_parts (count ∷ proposer ∷ seq ∷ []) = version_from count proposer seq
version_of_parts _ = Err Number

-- a version: three numbers, parted by dots
abbrev pub version_of : List ℕ → Result Version Cause
version_of word = version_of_parts (parts_of 46 word)

-- members from low on, each greater than the one before
abbrev pub members_from : ℕ → ℕ → List (List ℕ) → Result (List ℕ) Cause
members_from low peers [] = Ok []
members_from low peers (word ∷ more) =
    or_cause Peers (number_within low peers word) >>= λ member. members_from (member + 1) peers more >>= λ members. Ok (member ∷ members)

-- a list of members: ascending numbers of peers
abbrev pub members_of : ℕ → List (List ℕ) → Result (List ℕ) Cause
members_of peers words = members_from 1 peers words

-- a view: 1 to 9 members, none of them above 31
abbrev pub view_of : ℕ → List (List ℕ) → Result (List ℕ) Cause
view_of peers words =
    members_of (min peers 31) words >>= λ members. if nat_le 1 (length members) && nat_le (length members) 9 then Ok members else Err Peers
