-- The order in which a header is tested.
use Rattle.std.specs.Prelude.{ℕ, ◌+◌, Bool, not, ◌==◌, ◌&&◌, nat_le, nat_lt, if◌then◌else◌, List, [], ◌∷◌, length, drop, slice_index, Result, Err}
use Rattle.byteorder.specs.Endian.{big_number}
use Rattle.wire_frames.specs.declared.frame.Frame.{Frame}
use Rattle.wire_frames.specs.declared.error.FrameError.{FrameError}
use Rattle.wire_frames.specs.declared.error.FrameError.TheVariants.{Short, Magic, Version, Kind, Length, Trailing, Field}
use Rattle.wire_frames.specs.Messages.{message_at}
use Rattle.wire_frames.specs.Frames.{all_of}

-- whether the bytes fail a test, and the cause where they do
abbrev pub Test : Type 0
Test = Bool × FrameError

-- the cause of the first test that is failed, and else what the body gives
abbrev pub first_cause : List Test → Result Frame FrameError → Result Frame FrameError
first_cause [] body = body
first_cause (test ∷ tests) body = if test.0 then Err test.1 else first_cause tests body

abbrev pub kind_in : List ℕ → ℕ
kind_in bytes = slice_index bytes 3

abbrev pub sender_in : List ℕ → ℕ
sender_in bytes = big_number 4 (drop 4 bytes)

abbrev pub receiver_in : List ℕ → ℕ
receiver_in bytes = big_number 4 (drop 8 bytes)

-- the length of the body that the header announces
abbrev pub size_in : List ℕ → ℕ
size_in bytes = big_number 2 (drop 12 bytes)

-- the tests of a header, in their order
abbrev pub header_tests : List ℕ → List Test
header_tests bytes =
    (nat_lt (length bytes) 14, Short)
    ∷ (not (slice_index bytes 0 == 0x52 && slice_index bytes 1 == 0x45), Magic)
    ∷ (not (slice_index bytes 2 == 2), Version)
    ∷ (not (nat_le 1 (kind_in bytes) && nat_le (kind_in bytes) 19), Kind)
    ∷ (nat_lt 4096 (size_in bytes), Length)
    ∷ (nat_lt (length bytes) (14 + size_in bytes), Short)
    ∷ (nat_lt (14 + size_in bytes) (length bytes), Trailing)
    ∷ (not (nat_le 1 (sender_in bytes) && nat_le (sender_in bytes) 63), Field 4)
    ∷ (not (nat_le 1 (receiver_in bytes) && nat_le (receiver_in bytes) 63), Field 8)
    ∷ []

-- what the body gives, behind a header that passes
abbrev pub body_of : List ℕ → Result Frame FrameError
body_of bytes = all_of (sender_in bytes) (receiver_in bytes) (length bytes) (message_at (kind_in bytes) bytes 14)
