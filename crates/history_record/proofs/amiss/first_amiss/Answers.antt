use Rattle.std.proofs.Common.{◌≡◌, false, get_or, sym, ◌∙◌}
use Rattle.history_record.specs.Clauses.{is_amiss}
use Rattle.history_record.proofs.Walks.{amiss_on}
use Rattle.history_record.proofs.amiss.first_amiss.Goals as goal

pub loop-id-preserved : goal.loop-id-preserved
loop-id-preserved c =
    let id = get_or c.args.ids.now c.loop-id.id-index 0 in
    let fine : is_amiss c.args.answers.now c.args.order.now id ≡ false = sym (c.is_amiss.ensures c.args.order.now (sym (c.in_ok-occurring.ensures.set id) ∙ sym c.contains.ensures)) ∙ c.if-is_amiss.false in
    amiss_on c.args.answers.now c.args.order.now c.args.ids.now c.loop-id.id-index 0 c.loop-id-test.true fine c.loop-id.invariant
