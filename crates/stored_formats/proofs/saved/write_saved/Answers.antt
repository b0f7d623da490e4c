use Rattle.std.proofs.Common.{◌∷◌, ◌++◌, List, ℕ, Option, subst, sym}
use Rattle.fields.specs.Places.{Writes}
use Rattle.fields.proofs.ByteLaws.{Writes-then}
use Rattle.stored_formats.specs.SavedBytes.{version_of, seal_spelling, fields_spelling}
use Rattle.stored_formats.proofs.saved.write_saved.Goals as goal

pub returns-in-Some-clause-written : goal.returns-in-Some-clause-written
returns-in-Some-clause-written c =
    let all = Writes-then _ _ _ _ _ _ _ _ c.write_u8-at.ensures (Writes-then _ _ _ _ _ _ _ _ c.write_fields-at.ensures.written (subst (λ (l : List ℕ). Writes c.write_fields-at.new.out c.write_bytes.new.out c.write_fields-at.result l c.write_bytes.result) c.bytes_of-bytes.ensures.spelled c.write_bytes.ensures)) in
    subst (λ (o : Option (List ℕ)). Writes c.args.out.now c.write_bytes.new.out 0 (version_of o ∷ (fields_spelling c.args.x.now.fact ++ seal_spelling o)) c.write_bytes.result) (sym c.in-Some.is) all
