use Rattle.std.proofs.Common.{◌≡◌, ◌++◌, map, take, drop, length, ap, ◌∙◌}
use Rattle.call_table.specs.Calls.{not_due}
use Rattle.call_table.specs.Slots.{present, unless_due}
use Rattle.call_table.proofs.Slots.{written_over, present_not_due, length_unless_due}
use Rattle.call_table.proofs.calls.Calls.drop_due.Goals as goal

pub returns : goal.returns
returns c =
    let slots = c.slots.inside.slots in
    let new = c.empty_all_due.new.slots in
    let emptied : new ≡ map unless_due slots.items = c.empty_all_due.ensures ∙ ap (map unless_due) c.deref_mut.ensures.value in
    let same : take slots.len (new ++ drop (length new) slots.items) ≡ map unless_due slots.items = written_over slots.len slots.items new slots.ok.0 (ap length emptied ∙ length_unless_due slots.items) ∙ emptied in
    c.in_ok-self.ensures ∙ ap present same ∙ present_not_due slots.items ∙ ap not_due (c.slots.view_is ∙ c.replace.ensures.value)
