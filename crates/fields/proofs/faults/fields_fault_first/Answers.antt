use Rattle.fields.proofs.FieldLaws.{epoch_grammar, version_grammar, key_grammar, value_grammar}
use Rattle.fields.proofs.ViewLaws.{view_grammar, views_grammar}
use Rattle.fields.proofs.EntryLaws.{entry_grammar}
use Rattle.fields.proofs.FirstFaultLaws.{IsRule, field_faults}
use Rattle.fields.proofs.FieldFaults.{epoch_faults, version_faults, key_faults, value_faults, view_faults, views_faults, entry_faults}
use Rattle.fields.proofs.faults.fields_fault_first.Goals as goal

pub returns-clause-epoch : goal.returns-clause-epoch
returns-clause-epoch c = field_faults epoch_grammar (epoch_faults IsRule)

pub returns-clause-version : goal.returns-clause-version
returns-clause-version c = field_faults version_grammar (version_faults IsRule)

pub returns-clause-key : goal.returns-clause-key
returns-clause-key c = field_faults key_grammar key_faults

pub returns-clause-value : goal.returns-clause-value
returns-clause-value c = field_faults value_grammar value_faults

pub returns-clause-view : goal.returns-clause-view
returns-clause-view c = field_faults view_grammar view_faults

pub returns-clause-views : goal.returns-clause-views
returns-clause-views c = field_faults views_grammar views_faults

pub returns-clause-entry : goal.returns-clause-entry
returns-clause-entry c = field_faults entry_grammar entry_faults
