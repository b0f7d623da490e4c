use Rattle.fields.proofs.FieldFaults.{named_faults}
use Rattle.stored_formats.proofs.FactLaws.{fact_grammar}
use Rattle.stored_formats.proofs.FactFaults.{fact_faults, no_memory}
use Rattle.stored_formats.proofs.fact_faults.facts_fault_first.Goals as goal

pub returns-clause-first : goal.returns-clause-first
returns-clause-first c = named_faults fact_grammar fact_faults

pub returns-clause-memory : goal.returns-clause-memory
returns-clause-memory c = no_memory
