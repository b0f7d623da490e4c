-- What stands before each part of a frame.
use Rattle.std.specs.Prelude.{ℕ, ◌^◌, ◌<◌, List, [], ◌∷◌, ◌++◌, length, drop, slice_index, nat_lt, Option, None, Some, if◌then◌else◌}
use Rattle.byteorder.specs.Endian.{big_bytes, big_number}
use Rattle.repeat_link.specs.declared.header.Header.{Header}

-- the 50 bytes of a header
abbrev pub header_bytes : Header → List ℕ
header_bytes h =
    big_bytes 4 h.from ++ big_bytes 4 h.to ++ big_bytes 8 h.run ++ big_bytes 8 h.known_run ++ big_bytes 8 h.number
    ++ big_bytes 8 h.received.greatest ++ big_bytes 8 h.received.bits ++ h.part ∷ h.parts ∷ []

-- the header at the front of a datagram
abbrev pub header_of : List ℕ → Header
header_of d = record {
  from = big_number 4 d;
  to = big_number 4 (drop 4 d);
  run = big_number 8 (drop 8 d);
  known_run = big_number 8 (drop 16 d);
  number = big_number 8 (drop 24 d);
  received = record { greatest = big_number 8 (drop 32 d); bits = big_number 8 (drop 40 d) };
  part = slice_index d 48;
  parts = slice_index d 49;
}

abbrev pub header_in : List ℕ → Option Header
header_in d = if nat_lt (length d) 50 then None else Some (header_of d)

-- each number keeps to its width
pub record IsHeader (h : Header) : Type 0 where
  pub from : h.from < 2 ^ 32
  pub to : h.to < 2 ^ 32
  pub run : h.run < 2 ^ 64
  pub known_run : h.known_run < 2 ^ 64
  pub number : h.number < 2 ^ 64
  pub greatest : h.received.greatest < 2 ^ 64
  pub bits : h.received.bits < 2 ^ 64
  pub part : h.part < 256
  pub parts : h.parts < 256
