-- Targets of requests: paths, queries, keys, values and numbers.
use Rattle.std.specs.Prelude.{ℕ, ◌+◌, ◌-◌, ◌*◌, ◌^◌, Bool, true, false, not, ◌&&◌, ◌||◌, List, [], ◌∷◌, length, take, drop, Option, Some, None, Result, Ok, Err, if◌then◌else◌, nat_lt, nat_le, ◌==◌}
use Rattle.std.specs.List.{prefix_len}
use Rattle.std.specs.Char.{is_ascii_digit, is_ascii_hexdigit}
use Rattle.percent_encoding.specs.Percent.{percent_decode}
use Rattle.http_calls.specs.declared.problem.Problem.{Problem}
use Rattle.http_calls.specs.declared.problem.Problem.TheVariants.{BadKey, BadParameter, TooLong}

-- how many bytes come before the first `?`
abbrev pub path_len : List ℕ → ℕ
path_len target = prefix_len (λ b. not (b == 63)) target

-- the path: what comes before the first `?`
abbrev pub path_of : List ℕ → List ℕ
path_of target = take (path_len target) target

-- the query, if there is one: what follows the first `?`
abbrev pub query_of : List ℕ → Option (List ℕ)
query_of target = if path_len target == length target then None else Some (drop (path_len target + 1) target)

-- two hexadecimal digits come first
abbrev pub begins_with_digits : List ℕ → Bool
begins_with_digits [] = false
begins_with_digits (a ∷ []) = false
begins_with_digits (a ∷ b ∷ rest) = is_ascii_hexdigit a && is_ascii_hexdigit b

-- one segment of a path: no `/`, and two hexadecimal digits after each `%` (RFC 3986, sections 2.1 and 3.3)
abbrev pub is_segment : List ℕ → Bool
is_segment [] = true
is_segment (b ∷ rest) = if (b == 47) || ((b == 37) && not (begins_with_digits rest)) then false else is_segment rest

-- each `%` and its two digits become one byte
abbrev pub decoded : List ℕ → List ℕ
decoded text = percent_decode text

-- the key that a segment spells: 1 to 64 bytes
abbrev pub key_of : List ℕ → Result (List ℕ) Problem
key_of segment =
    if is_segment segment && (nat_le 1 (length (decoded segment)) && nat_le (length (decoded segment)) 64)
    then Ok (decoded segment) else Err BadKey

-- a value: at most 1,024 bytes
abbrev pub value_of : List ℕ → Result (List ℕ) Problem
value_of bytes = if nat_le (length bytes) 1024 then Ok bytes else Err TooLong

-- the value that an escaped text spells
abbrev pub escaped_value : List ℕ → Result (List ℕ) Problem
escaped_value text = if is_segment text then value_of (decoded text) else Err BadParameter

-- the number that these digits write after a number, if it is below 2 ^ 64
abbrev pub number_after : ℕ → List ℕ → Option ℕ
number_after n [] = Some n
number_after n (d ∷ ds) =
    if is_ascii_digit d && nat_lt (n * 10 + (d - 48)) (2 ^ 64) then number_after (n * 10 + (d - 48)) ds else None

-- the decimal number that the text writes, if it is one below 2 ^ 64
abbrev pub number_of : List ℕ → Option ℕ
number_of text = if length text == 0 then None else number_after 0 text
