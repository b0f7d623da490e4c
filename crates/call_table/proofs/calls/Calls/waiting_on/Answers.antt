use Rattle.std.proofs.Common.{length, ap, sym, ◌∙◌}
use Rattle.call_table.specs.Calls.{waiting_on}
use Rattle.call_table.proofs.Slots.{count_places}
use Rattle.call_table.proofs.calls.Calls.waiting_on.Goals as goal

pub returns : goal.returns
returns c =
    let key = c.args.key.now in
    c.count.ensures ∙ ap length (c.self.invariant.places key) ∙ sym (count_places key c.self.inside.slots.items 0) ∙ ap (waiting_on key) c.self.view_is
