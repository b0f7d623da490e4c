use Rattle.std.proofs.Common.{refl}
use Rattle.stored_formats.proofs.FactLaws.{fact_again}
use Rattle.stored_formats.proofs.fact.Fact.encode.Goals as goal

pub returns-in-Ok-clause-again : goal.returns-in-Ok-clause-again
returns-in-Ok-clause-again c = fact_again _ c.args.self.now c.write_fact-size.ensures.valid refl

pub returns-in-Err-clause-again : goal.returns-in-Err-clause-again
returns-in-Err-clause-again c = fact_again _ c.args.self.now c.write_fact-size.ensures.valid refl
