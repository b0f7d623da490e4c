use Rattle.std.proofs.Common.{◌++◌, ◌+◌, take, drop, ap, sym, List, append_assoc, ◌∙◌}
use Rattle.call_table.specs.Calls.{due_after}
use Rattle.call_table.specs.Slots.{present, due_at}
use Rattle.call_table.specs.declared.waiting.DueCall.{DueCall}
use Rattle.call_table.proofs.Slots.{due_next}
use Rattle.call_table.proofs.calls.due_in.Goals as goal

pub loop-i-preserved : goal.loop-i-preserved
loop-i-preserved c =
    let slots = c.args.slots.now in
    let i = c.loop-i.i in
    let s = c.index-slots-i.result in
    let later : List DueCall = due_after (present (take (i + 1) slots)) (present (drop (i + 1) slots)) in
    c.loop-i.invariant
    ∙ ap (λ (ds : List DueCall). c.loop-i.due.items ++ ds) (due_next c.args.places.now slots i s c.requires c.loop-i-test.true c.index-slots-i.is)
    ∙ sym (append_assoc c.loop-i.due.items (due_at c.args.places.now i s) later)
    ∙ ap (λ (ds : List DueCall). ds ++ later) (sym c.in_ok-add_if_due.ensures)
