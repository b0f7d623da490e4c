use Rattle.std.proofs.Common.{List, ℕ, subst}
use Rattle.fields.specs.Places.{Writes}
use Rattle.fields.proofs.ByteLaws.{Writes-then}
use Rattle.stored_formats.proofs.FactLaws.{regrouped}
use Rattle.stored_formats.proofs.fact_encoding.write_fact.Goals as goal

pub returns-clause-written : goal.returns-clause-written
returns-clause-written c = subst (λ (l : List ℕ). Writes c.args.out.now c.write_fields.new.out 0 l c.write_fields.result) (regrouped c.args.x.now) (Writes-then _ _ _ _ _ _ _ _ c.write_u8-at.ensures c.write_fields.ensures.written)
