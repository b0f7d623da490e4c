use Rattle.std.proofs.Common.{◌∷◌, ap, append-nil, ◌∙◌, List, ℕ}
use Rattle.fields.proofs.GrammarLaws.{apart}
use Rattle.stored_formats.specs.SavedBytes.{fields_spelling}
use Rattle.stored_formats.proofs.FactLaws.{regrouped}
use Rattle.stored_formats.proofs.SavedLaws.{saved_grammar}
use Rattle.stored_formats.proofs.saved.saved_facts_stand_apart.Goals as goal

pub returns-clause-grammar : goal.returns-clause-grammar
returns-clause-grammar c = saved_grammar

pub returns-clause-apart : goal.returns-clause-apart
returns-clause-apart c = apart saved_grammar

pub returns-clause-unsealed : goal.returns-clause-unsealed
returns-clause-unsealed c f = ap (λ (l : List ℕ). 1 ∷ l) (append-nil (fields_spelling f)) ∙ regrouped f
