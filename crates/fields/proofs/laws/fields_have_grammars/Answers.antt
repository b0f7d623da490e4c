use Rattle.fields.proofs.FieldLaws.{epoch_grammar, version_grammar, key_grammar, value_grammar}
use Rattle.fields.proofs.ViewLaws.{view_grammar, views_grammar}
use Rattle.fields.proofs.EntryLaws.{entry_grammar}
use Rattle.fields.proofs.laws.fields_have_grammars.Goals as goal

pub returns-clause-epoch : goal.returns-clause-epoch
returns-clause-epoch c = epoch_grammar

pub returns-clause-version : goal.returns-clause-version
returns-clause-version c = version_grammar

pub returns-clause-key : goal.returns-clause-key
returns-clause-key c = key_grammar

pub returns-clause-value : goal.returns-clause-value
returns-clause-value c = value_grammar

pub returns-clause-view : goal.returns-clause-view
returns-clause-view c = view_grammar

pub returns-clause-views : goal.returns-clause-views
returns-clause-views c = views_grammar

pub returns-clause-entry : goal.returns-clause-entry
returns-clause-entry c = entry_grammar
