use Rattle.fields.proofs.GrammarLaws.{apart}
use Rattle.stored_formats.proofs.ObjectLaws.{object_grammar}
use Rattle.stored_formats.proofs.object_laws.objects_stand_apart.Goals as goal

pub returns-clause-grammar : goal.returns-clause-grammar
returns-clause-grammar c = object_grammar

pub returns-clause-apart : goal.returns-clause-apart
returns-clause-apart c = apart object_grammar
