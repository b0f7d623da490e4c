use Rattle.std.proofs.Common.{◌||◌, ◌+◌, take, drop, ap, sym, Bool, ◌∙◌}
use Rattle.call_table.specs.Late.{late_put_after}
use Rattle.call_table.specs.Slots.{present}
use Rattle.call_table.proofs.Slots.{late_next}
use Rattle.call_table.proofs.calls.is_put_late.Goals as goal

pub returns-then-is_late : goal.returns-then-is_late
returns-then-is_late c =
    let slots = c.args.slots.now in
    let i = c.loop-i.i in
    let later : Bool = late_put_after c.args.rows.now (present (take (i + 1) slots)) (present (drop (i + 1) slots)) in
    sym (c.loop-i.invariant ∙ late_next c.args.places.now slots i c.index-slots-i.result c.requires c.loop-i-test.true c.index-slots-i.is c.args.rows.now
    ∙ ap (λ (b : Bool). b || later) (sym c.is_late.ensures ∙ c.if-is_late.true))

pub loop-i-preserved : goal.loop-i-preserved
loop-i-preserved c =
    let slots = c.args.slots.now in
    let i = c.loop-i.i in
    let later : Bool = late_put_after c.args.rows.now (present (take (i + 1) slots)) (present (drop (i + 1) slots)) in
    c.loop-i.invariant ∙ late_next c.args.places.now slots i c.index-slots-i.result c.requires c.loop-i-test.true c.index-slots-i.is c.args.rows.now
    ∙ ap (λ (b : Bool). b || later) (sym c.is_late.ensures ∙ c.if-is_late.false)
