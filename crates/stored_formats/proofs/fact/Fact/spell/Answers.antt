use Rattle.std.proofs.Common.{refl}
use Rattle.fields.proofs.ByteLaws.{Writes-whole}
use Rattle.stored_formats.proofs.FactLaws.{fact_again}
use Rattle.stored_formats.proofs.fact.Fact.spell.Goals as goal

pub returns-clause-prefix : goal.returns-clause-prefix
returns-clause-prefix c = Writes-whole _ _ _ _ c.write_fact.ensures.written

pub returns-clause-again : goal.returns-clause-again
returns-clause-again c = fact_again _ c.args.self.now c.write_fact.ensures.valid refl
