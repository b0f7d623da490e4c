use Rattle.std.proofs.Common.{arith, ap, sym, ◌∙◌}
use Rattle.call_table.specs.Calls.{running}
use Rattle.call_table.proofs.Slots.{none_kept, first_kept, copied_now}
use Rattle.call_table.proofs.calls.Calls.running.Goals as goal

pub returns-in_default : goal.returns-in_default
returns-in_default c =
    let key = c.args.key.now in
    ap (running key) (sym c.self.view_is) ∙ (none_kept key c.self.inside.slots.items c.self.inside.places c.self.invariant.places c.in_default.ensures).0

pub index-requires : goal.index-requires
index-requires c =
    let slots = c.self.inside.slots in
    let first = first_kept c.args.key.now slots.items c.self.inside.places c.in-Some.place c.self.invariant.places c.in-Some.ensures in
    omega (arith, first.within, slots.ok.0)

pub returns : goal.returns
returns c =
    let key = c.args.key.now in
    let slots = c.self.inside.slots in
    let first = first_kept key slots.items c.self.inside.places c.in-Some.place c.self.invariant.places c.in-Some.ensures in
    ap (running key) (sym c.self.view_is) ∙ sym (first.call c.index.result.now) ∙ sym c.index.ensures ∙ sym c.as_ref.ensures.value ∙ copied_now c.as_ref.result
