-- A frame: a header, and the payload that it speaks of.
use Rattle.std.specs.Prelude.{◌≡◌, ◌⊎◌, ℕ, ◌<◌, List, ◌++◌, length, slice_index_or}
use Rattle.commit_frames.specs.Headers.{header_bytes, FitsHeader, IsWhole, IsSound}
use Rattle.commit_frames.specs.declared.header.Header.{Header}

pub record Frame : Type 0 where
  pub head : Header
  pub payload : List ℕ

abbrev pub frame_bytes : Frame → List ℕ
frame_bytes f = header_bytes f.head ++ f.payload

-- the header tells the payload
pub record IsFrame (f : Frame) : Type 0 where
  pub fits : FitsHeader f.head
  pub whole : IsWhole f.head f.payload
  pub sound : IsSound f.head f.payload

-- what a crash leaves of these bytes, written over zeros: each is still 0, or the new one
pub record IsLostFrom (whole left : List ℕ) : Type 0 where
  pub size : length left ≡ length whole
  pub each : (i : ℕ) → i < length whole → (slice_index_or left i 0 ≡ 0) ⊎ (slice_index_or left i 0 ≡ slice_index_or whole i 0)
