use Rattle.fields.proofs.ByteLaws.{Writes-then}
use Rattle.stored_formats.proofs.fact_encoding.write_change.Goals as goal

pub returns-in-Add-clause-written : goal.returns-in-Add-clause-written
returns-in-Add-clause-written c =
    let both = Writes-then _ _ _ _ _ _ _ _ c.write_u8-at.ensures c.write_view.ensures.written in
    rw c.in-Add.is both
