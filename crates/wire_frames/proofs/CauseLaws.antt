-- A header is tested in the order of its tests.
use Rattle.std.proofs.Common.{◌≡◌, ℕ, ◌+◌, Bool, true, false, cond, List, length, Result, Err, refl}
use Rattle.std.specs.Prelude.{not, ◌==◌, ◌&&◌, nat_le, nat_lt, slice_index}
use Rattle.wire_frames.specs.declared.frame.Frame.{Frame}
use Rattle.wire_frames.specs.declared.error.FrameError.{FrameError}
use Rattle.wire_frames.specs.declared.error.FrameError.TheVariants.{Short, Magic, Version, Kind, Length, Trailing, Field}
use Rattle.wire_frames.specs.Frames.{second_version_of, frame_of}
use Rattle.wire_frames.specs.FirstCauses.{first_cause, header_tests, body_of, kind_in, sender_in, receiver_in, size_in}

abbrev Answer : Type 0
Answer = Result Frame FrameError

abbrev nested : Bool → Bool → Bool → Bool → Bool → Bool → Bool → Bool → Bool → Answer → Answer
nested a m v k l s t f r body = cond a (Err Short) (cond m (cond v (cond k (cond l (Err Length) (cond s (Err Short) (cond t (Err Trailing) (cond f (cond r body (Err (Field 8))) (Err (Field 4)))))) (Err Kind)) (Err Version)) (Err Magic))

abbrev flat : Bool → Bool → Bool → Bool → Bool → Bool → Bool → Bool → Bool → Answer → Answer
flat a m v k l s t f r body = cond a (Err Short) (cond (not m) (Err Magic) (cond (not v) (Err Version) (cond (not k) (Err Kind) (cond l (Err Length) (cond s (Err Short) (cond t (Err Trailing) (cond (not f) (Err (Field 4)) (cond (not r) (Err (Field 8)) body))))))))

same : (a m v k l s t f r : Bool) (body : Answer) → nested a m v k l s t f r body ≡ flat a m v k l s t f r body
same true m v k l s t f r body = refl
same false false v k l s t f r body = refl
same false true false k l s t f r body = refl
same false true true false l s t f r body = refl
same false true true true true s t f r body = refl
same false true true true false true t f r body = refl
same false true true true false false true f r body = refl
same false true true true false false false false r body = refl
same false true true true false false false true false body = refl
same false true true true false false false true true body = refl

pub in_order : (bytes : List ℕ) → frame_of bytes ≡ first_cause (header_tests bytes) (body_of bytes)
unfolding frame_of second_version_of
in_order bytes =
    same (nat_lt (length bytes) 14) (slice_index bytes 0 == 0x52 && slice_index bytes 1 == 0x45) (slice_index bytes 2 == 2) (nat_le 1 (kind_in bytes) && nat_le (kind_in bytes) 19) (nat_lt 4096 (size_in bytes))
    (nat_lt (length bytes) (14 + size_in bytes)) (nat_lt (14 + size_in bytes) (length bytes)) (nat_le 1 (sender_in bytes) && nat_le (sender_in bytes) 63) (nat_le 1 (receiver_in bytes) && nat_le (receiver_in bytes) 63) (body_of bytes)
