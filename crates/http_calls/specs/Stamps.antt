-- The entity tag of a stamp (RFC 9110, section 8.8.3).
use Rattle.std.specs.Prelude.{ℕ, ◌∷◌, ◌++◌, [], List, length, take, drop, Option, Some, None, Result, Ok, Err, if◌then◌else◌, ◌==◌, bytes_eq}
use Rattle.byteorder.specs.Endian.{big_number, big_bytes}
use Rattle.hex.specs.declared.error.FromHexError.{FromHexError}
use Rattle.hex.specs.Hex.{encode_lower, decode_sized}
use Rattle.ens_base.specs.declared.epoch.Version.{Version}

-- eight bytes of the count of the epoch, four of its proposer, eight of the number in it
abbrev pub stamp_bytes : Version → List ℕ
stamp_bytes v = (big_bytes 8 v.epoch.count ++ big_bytes 4 v.epoch.proposer) ++ big_bytes 8 v.seq

abbrev pub stamp_at : List ℕ → Version
stamp_at bytes = record {
  epoch = record { count = big_number 8 bytes; proposer = big_number 4 (drop 8 bytes) };
  seq = big_number 8 (drop 12 bytes);
}

-- 40 lower-case hexadecimal digits in quotes
abbrev pub tag_text : Version → List ℕ
tag_text v = 34 ∷ (encode_lower (stamp_bytes v) ++ 34 ∷ [])

-- the stamp, if the text is its tag
abbrev pub if_tag : List ℕ → Version → Option Version
if_tag text v = if bytes_eq text (tag_text v) then Some v else None

abbrev pub stamp_from : List ℕ → Result (List ℕ) FromHexError → Option Version
stamp_from text (Ok bytes) = if_tag text (stamp_at bytes)
stamp_from text (Err e) = None

-- the stamp whose tag the text is
abbrev pub stamp_of : List ℕ → Option Version
stamp_of text = if length text == 42 then stamp_from text (decode_sized (take 40 (drop 1 text)) 20) else None
