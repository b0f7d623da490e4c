use Rattle.std.proofs.Common.{refl, arith}
use Rattle.fields.proofs.ByteLaws.{Writes-mid}
use Rattle.fields.proofs.numbers.write_bytes.Goals as goal

pub returns : goal.returns
returns c = rw c.copy_from_slice.ensures.after (Writes-mid _ _ _ _ _ (omega arith) refl (omega arith))
