use Rattle.std.proofs.Common.{rules, ◌≡◌, ◌++◌, ◌∷◌, [], List, ap, sym, ◌∙◌}
use Rattle.register_model.specs.declared.note.Note.{Note}
use Rattle.history_scribe.specs.Marks.{marks_on}
use Rattle.history_scribe.proofs.Marked.{note_taken}
use Rattle.history_scribe.proofs.scribe.Scribe.note.Goals as goal

pub invariant_of-self-in-Break-branch-3 : goal.invariant_of-self-in-Break-branch-3
invariant_of-self-in-Break-branch-3 c = record { marked = λ key. c.in_err-push.ensures.err key ∙ c.args.self.now.marked key ∙ ap (λ (notes : List Note). marks_on notes key) (sym c.in_ok-reserve.ensures.items) }

pub invariant_of-self-2 : goal.invariant_of-self-2
invariant_of-self-2 c =
    let more : c.push-2.new.self.items ≡ c.args.self.now.notes.items ++ c.args.note ∷ [] = search rules in
    record { marked = λ key. note_taken c.args.self.now.notes.items c.push-2.new.self.items c.args.note c.in_ok-key.key key c.mark_of.result _ _ more (c.in_ok-key.ensures ∙ c.key_of.ensures) c.mark_of.ensures (c.args.self.now.marked key) (c.in_ok-push.ensures.ok key) }
