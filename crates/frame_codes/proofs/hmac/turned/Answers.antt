use Rattle.std.proofs.Common.{◌∙◌, arith, slice_index_or, bit_xor}
use Rattle.std.proofs.lemmas.List.{length-set, get_or_default}
use Rattle.std.proofs.lemmas.List.Edits.{map_over_more}
use Rattle.frame_codes.proofs.hmac.turned.Goals as goal

pub bytes-preserved : goal.bytes-preserved
bytes-preserved c =
    let old = slice_index_or c.bytes.out c.bytes.i 0 in (
      length-set _ _ _ ∙ c.bytes.invariant.0,
      c.bytes.invariant.1,
      map_over_more (λ b. bit_xor b c.args.mask) c.args.block.now c.bytes.out c.bytes.i old (omega arith) c.bytes.invariant.2 (get_or_default c.bytes.out c.bytes.i 0 old (omega arith)),
    )
