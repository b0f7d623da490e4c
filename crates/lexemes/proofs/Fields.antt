-- One word: what was read is spelled so, and what is spelled so is read.
use Rattle.std.proofs.Common.{◌≡◌, ℕ, ◌≤◌, Bool, true, false, ◌&&◌, ◌/◌, if◌then◌else◌, List, [], ◌∷◌, length, slice_index, codes, Option, Some, None, Ok, refl, sym, ap, ◌∙◌, arith, lit≤, nat_eq, ◌*◌}
use Rattle.ens_base.proofs.Lists.{bytes_same}
use Rattle.std.specs.Fmt.{decimal}
use Rattle.hex.proofs.HexLemmas.{length-encode_with}
use Rattle.hex.specs.Hex.{encode_lower, encode_with, lower_digits}
use Rattle.ens_base.specs.Limits.{IsKey, IsValue}
use Rattle.ens_base.specs.Lists.{same_bytes}
use Rattle.ens_base.specs.Words.{bytes_word, value_word}
use Rattle.ens_base.specs.Results.{◌>>=◌}
use Rattle.lexemes.specs.Causes.{or_cause}
use Rattle.lexemes.specs.Spelling.{IsAmong, IsContent, content_word}
use Rattle.lexemes.specs.Words.{bytes_within, content_of, key_of, number_within, peer_of, value_of}
use Rattle.lexemes.specs.declared.cause.Cause.TheVariants.{Bytes, Peers}
use Rattle.lexemes.proofs.Hexadecimal.{bytes_within-some, bytes_within-encode}
use Rattle.lexemes.proofs.Numerals.{number_within-some, number_within-decimal}
use Rattle.lexemes.proofs.Results.{bind_ok, ok_same, or_cause_ok}

-- ---- equal bytes

-- ---- peers

pub peer_of-ok : (peers : ℕ) (word : List ℕ) (peer : ℕ) → peers ≤ 31 → peer_of peers word ≡ Ok peer → (word ≡ decimal peer) × IsAmong peers peer
peer_of-ok peers word peer few h =
    let parts = number_within-some 1 peers word peer (omega arith) (or_cause_ok Peers (number_within 1 peers word) peer h) in
    (parts.0, record { first = parts.1; last = parts.2 })

pub peer_of-decimal : (peers peer : ℕ) → peers ≤ 31 → IsAmong peers peer → peer_of peers (decimal peer) ≡ Ok peer
peer_of-decimal peers peer few h =
    let first : 1 ≤ peer = h.first in
    let last : peer ≤ peers = h.last in
    ap (or_cause Peers) (number_within-decimal 1 peers peer first last (omega arith))

-- ---- keys, values and raw bytes

pub key_of-ok : (word key : List ℕ) → key_of word ≡ Ok key → (word ≡ bytes_word key) × IsKey key
key_of-ok word key h =
    let parts = bytes_within-some 1 64 word key (or_cause_ok Bytes (bytes_within 1 64 word) key h) in
    (parts.0, record { size = (parts.1.least, parts.1.most); bytes = parts.1.each })

pub key_of-word : (key : List ℕ) → IsKey key → key_of (bytes_word key) ≡ Ok key
key_of-word key h = ap (or_cause Bytes) (bytes_within-encode 1 64 key (record { least = h.size.0; most = h.size.1; each = h.bytes }))

-- bytes that are some are spelled in digits
value_word-some : (bytes : List ℕ) → 1 ≤ length bytes → value_word bytes ≡ encode_lower bytes
value_word-some [] h = absurd (omega arith)
value_word-some (b ∷ rest) h = refl

pub value_of-ok : (word value : List ℕ) → value_of word ≡ Ok value → (word ≡ value_word value) × IsValue value
value_of-ok word value h = by (same_bytes word (codes "-")) refl h
  where
    by : (b : Bool) → same_bytes word (codes "-") ≡ b → (if b then Ok [] else or_cause Bytes (bytes_within 1 1024 word)) ≡ Ok value
        → (word ≡ value_word value) × IsValue value
    by true e h = rw (← (ok_same h)) (bytes_same word (codes "-") e, record { size = omega arith; bytes = λ i. omega arith })
    by false e h =
        let parts = bytes_within-some 1 1024 word value (or_cause_ok Bytes (bytes_within 1 1024 word) value h) in
        (parts.0 ∙ sym (value_word-some value parts.1.least), record { size = parts.1.most; bytes = parts.1.each })

-- no digits are a dash
no_dash : (bytes : List ℕ) → 1 ≤ length bytes → same_bytes (encode_lower bytes) (codes "-") ≡ false
unfolding encode_with
no_dash [] h = absurd (omega arith)
no_dash (b ∷ rest) h = by (nat_eq (slice_index lower_digits (b / 16)) 45)
  where
    by : (t : Bool) → (t && false) ≡ false
    by true = refl
    by false = refl

pub value_of-word : (value : List ℕ) → IsValue value → value_of (value_word value) ≡ Ok value
value_of-word [] h = refl
value_of-word (b ∷ rest) h = let some : 1 ≤ length (b ∷ rest) = omega arith in rw no_dash (ap (or_cause Bytes) (bytes_within-encode 1 1024 (b ∷ rest) (record { least = omega arith; most = h.size; each = h.bytes })))

pub content_of-ok : (word : List ℕ) (content : Option (List ℕ)) → content_of word ≡ Ok content → (word ≡ content_word content) × IsContent content
content_of-ok word content h = by (same_bytes word (codes "-")) refl h
  where
    by : (b : Bool) → same_bytes word (codes "-") ≡ b
        → (if b then Ok None else or_cause Bytes (bytes_within 1 2000 word) >>= λ bytes. Ok (Some bytes)) ≡ Ok content
        → (word ≡ content_word content) × IsContent content
    by true e h = rw (← (ok_same h)) (bytes_same word (codes "-") e, tt)
    by false e h =
        let read = bind_ok (or_cause Bytes (bytes_within 1 2000 word)) _ content h in
        rw (← (ok_same read.2)) (bytes_within-some 1 2000 word read.0 (or_cause_ok Bytes (bytes_within 1 2000 word) read.0 read.1))

pub content_of-word : (content : Option (List ℕ)) → IsContent content → content_of (content_word content) ≡ Ok content
content_of-word None h = refl
content_of-word (Some bytes) h =
    let some : 1 ≤ length bytes = h.least in
    rw no_dash (ap (λ (o : Option (List ℕ)). or_cause Bytes o >>= λ bytes. Ok (Some bytes)) (bytes_within-encode 1 2000 bytes h))

-- ---- how long words are

pub length-bytes_word : (bytes : List ℕ) → length (bytes_word bytes) ≡ 2 * length bytes
length-bytes_word bytes = length-encode_with lower_digits bytes

pub length-value_word-le : (value : List ℕ) → IsValue value → length (value_word value) ≤ 2048
length-value_word-le [] h = lit≤ tt
length-value_word-le (b ∷ rest) h = let most : length (b ∷ rest) ≤ 1024 = h.size in let long = length-bytes_word (b ∷ rest) in omega (arith, long)

pub length-content_word-le : (content : Option (List ℕ)) → IsContent content → length (content_word content) ≤ 4000
length-content_word-le None h = lit≤ tt
length-content_word-le (Some bytes) h = let most : length bytes ≤ 2000 = h.most in let long = length-bytes_word bytes in omega (arith, long)
