use Rattle.std.proofs.Common.{◌∙◌, ◌<◌, refl, ap, arith, Err}
use Rattle.hex.specs.Hex.{decode_sized}
use Rattle.frame_codes.proofs.Digits.{index_within}
use Rattle.frame_codes.proofs.key_file.key_at.Goals as goal

pub overflow_add-result : goal.overflow_add-result
overflow_add-result c =
    let bad = c.in-Err-InvalidHexCharacter in
    let small : bad.index < 64 = index_within c.as_bytes.result.now (decode_sized c.as_bytes.result.now 32) c.decode_to_slice.result c.decode_to_slice.new.out _ bad.index refl c.decode_to_slice.ensures.value (bad.is ∙ ap Err bad.field-0-is) in
    let is = bad.index-is in
    omega arith
