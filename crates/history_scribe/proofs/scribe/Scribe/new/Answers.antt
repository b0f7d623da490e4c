use Rattle.std.proofs.Common.{ap, sym, ◌∙◌, List}
use Rattle.register_model.specs.declared.note.Note.{Note}
use Rattle.history_scribe.specs.Marks.{marks_on}
use Rattle.history_scribe.proofs.scribe.Scribe.new.Goals as goal

pub invariant_of-result : goal.invariant_of-result
invariant_of-result c = record { marked = λ key. c.new-2.ensures key ∙ ap (λ (notes : List Note). marks_on notes key) (sym c.new.ensures.items) }
