use Rattle.fields.proofs.GrammarLaws.{apart}
use Rattle.stored_formats.proofs.FactLaws.{fact_grammar}
use Rattle.stored_formats.proofs.fact_laws.facts_stand_apart.Goals as goal

pub returns-clause-grammar : goal.returns-clause-grammar
returns-clause-grammar c = fact_grammar

pub returns-clause-apart : goal.returns-clause-apart
returns-clause-apart c = apart fact_grammar
