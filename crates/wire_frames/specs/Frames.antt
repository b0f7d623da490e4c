-- Frames: a header of 14 bytes, and the body of a message.
use Rattle.std.specs.Prelude.{◌≡◌, ◌≤◌, ℕ, List, [], ◌∷◌, ◌++◌, length, drop, Result, Ok, Err, ◌<◌, ◌^◌, nat_lt, nat_le, ◌+◌, ◌==◌, ◌&&◌, if◌then◌else◌, slice_index}
use Rattle.byteorder.specs.Endian.{big_bytes, big_number}
use Rattle.fields.specs.declared.field_error.FieldError.{FieldError}
use Rattle.fields.specs.declared.field_error.FieldError.TheVariants as fields
use Rattle.wire_frames.specs.declared.message.Message.{Message}
use Rattle.wire_frames.specs.declared.frame.Frame.{Frame}
use Rattle.wire_frames.specs.declared.error.FrameError.{FrameError}
use Rattle.wire_frames.specs.declared.error.FrameError.TheVariants.{Short, Magic, Version, Kind, Length, Trailing, Field, Memory}
use Rattle.wire_frames.specs.Messages.{kind_of, IsMessage, message_spelling, message_at}

-- a number that a frame may name: a peer, or a program that calls
abbrev pub IsEnd : ℕ → Type 0
IsEnd n = (1 ≤ n) × (n ≤ 63)

pub record IsFrame (f : Frame) : Type 0 where
  pub from : IsEnd f.from
  pub to : IsEnd f.to
  pub message : IsMessage f.message

-- the two magic bytes, the version of this format, which is 2, the kind, who sends and who receives,
-- the length of the body, and the body
abbrev pub frame_spelling : Frame → List ℕ
frame_spelling f = 0x52 ∷ 0x45 ∷ 2 ∷ kind_of f.message ∷ [] ++ big_bytes 4 f.from ++ big_bytes 4 f.to ++ big_bytes 2 (length (message_spelling f.message)) ++ message_spelling f.message

-- each place that was answered is a number of four bytes
abbrev pub HasPlaces : Result (Message × ℕ) FieldError → Type 0
HasPlaces (Ok x) = x.1 < 2 ^ 32
HasPlaces (Err (fields.Short at)) = at < 2 ^ 32
HasPlaces (Err (fields.Rule at)) = at < 2 ^ 32
HasPlaces (Err fields.Memory) = Unit {0}

-- the message that was read, if it is all there is
abbrev pub all_of : ℕ → ℕ → ℕ → Result (Message × ℕ) FieldError → Result Frame FrameError
all_of from to size (Ok x) = if x.1 == size then Ok (record { from = from; to = to; message = x.0 }) else Err (Field x.1)
all_of from to size (Err (fields.Short at)) = Err (Field at)
all_of from to size (Err (fields.Rule at)) = Err (Field at)
all_of from to size (Err fields.Memory) = Err Memory

-- the fields of the header that name sender and receiver, and then the body
abbrev pub ends_of : ℕ → ℕ → ℕ → List ℕ → Result Frame FrameError
ends_of from to kind bytes = if nat_le 1 from && nat_le from 63 then (if nat_le 1 to && nat_le to 63 then all_of from to (length bytes) (message_at kind bytes 14) else Err (Field 8)) else Err (Field 4)

-- the kind and the length of the body
abbrev pub sized_of : ℕ → ℕ → List ℕ → Result Frame FrameError
sized_of kind size bytes = if nat_lt 4096 size then Err Length else (if nat_lt (length bytes) (14 + size) then Err Short else (if nat_lt (14 + size) (length bytes) then Err Trailing else ends_of (big_number 4 (drop 4 bytes)) (big_number 4 (drop 8 bytes)) kind bytes))

-- what follows the version byte
unfoldable pub second_version_of : List ℕ → Result Frame FrameError
second_version_of bytes = if nat_le 1 (slice_index bytes 3) && nat_le (slice_index bytes 3) 19 then sized_of (slice_index bytes 3) (big_number 2 (drop 12 bytes)) bytes else Err Kind

-- the frame that the bytes spell, or the first fault
unfoldable pub frame_of : List ℕ → Result Frame FrameError
frame_of bytes = if nat_lt (length bytes) 14 then Err Short else (if slice_index bytes 0 == 0x52 && slice_index bytes 1 == 0x45 then (if slice_index bytes 2 == 2 then second_version_of bytes else Err Version) else Err Magic)

abbrev pub Fails : {X : Type 0} → FrameError → Result X FrameError → Type 0
Fails Memory read = Unit {0}
Fails e read = read ≡ Err e

-- a call answered what reading gives, unless memory ran out
abbrev pub Answers : {X : Type 0} → Result X FrameError → Result X FrameError → Type 0
Answers (Ok x) read = read ≡ Ok x
Answers (Err e) read = Fails e read
