use Rattle.std.proofs.Common.{◌∙◌, List, ap, ℕ}
use Rattle.register_model.specs.Orders.{order}
use Rattle.history_scribe.specs.Marks.{all_noted}
use Rattle.history_scribe.specs.declared.mark.Mark.{Mark}
use Rattle.history_scribe.proofs.Marked.{order_marked}
use Rattle.history_scribe.proofs.scribe.Scribe.history.Goals as goal

pub returns-clause-calls : goal.returns-clause-calls
returns-clause-calls c =
    let key : List ℕ = c.args.key.now in
    c.new.ensures ∙ c.in_ok-calls.ensures (all_noted key c.of.result.now) key (c.in_ok-told.ensures key)
    ∙ ap (λ (marks : List Mark). order (all_noted key marks) key) (c.of.ensures ∙ c.args.self.now.marked key)
    ∙ order_marked key c.args.self.now.notes.items
