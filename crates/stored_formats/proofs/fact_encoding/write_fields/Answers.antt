use Rattle.std.proofs.Common.{ℕ, subst}
use Rattle.byteorder.specs.Endian.{big_bytes}
use Rattle.fields.specs.Places.{Writes}
use Rattle.fields.proofs.ByteLaws.{Writes-then}
use Rattle.stored_formats.proofs.fact_encoding.write_fields.Goals as goal

pub returns-clause-written : goal.returns-clause-written
returns-clause-written c =
    let written = subst (λ (n : ℕ). Writes c.write_u64-at.new.out c.write_u32-at.new.out c.write_u64-at.result (big_bytes 4 n) c.write_u32-at.result) c.number-leader.ensures c.write_u32-at.ensures in
    let views = Writes-then _ _ _ _ _ _ _ _ c.write_views-at.ensures.written c.write_change.ensures.written in
    let leader = Writes-then _ _ _ _ _ _ _ _ written views in
    let seq = Writes-then _ _ _ _ _ _ _ _ c.write_u64-at.ensures leader in
    let epoch = Writes-then _ _ _ _ _ _ _ _ c.write_epoch-at-2.ensures.written seq in
    Writes-then _ _ _ _ _ _ _ _ c.write_epoch-at.ensures.written epoch
