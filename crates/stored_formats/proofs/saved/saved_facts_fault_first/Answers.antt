use Rattle.fields.proofs.FieldFaults.{named_faults}
use Rattle.stored_formats.proofs.SavedFaults.{saved_faults, no_memory}
use Rattle.stored_formats.proofs.SavedLaws.{saved_grammar}
use Rattle.stored_formats.proofs.saved.saved_facts_fault_first.Goals as goal

pub returns-clause-first : goal.returns-clause-first
returns-clause-first c = named_faults saved_grammar saved_faults

pub returns-clause-memory : goal.returns-clause-memory
returns-clause-memory c = no_memory
