use Rattle.std.proofs.Common.{sym, ◌∙◌}
use Rattle.schedule_text.proofs.Calls.{call_named_short, call_named_long}
use Rattle.schedule_text.proofs.call_line.call_named.Goals as goal

pub returns-in_default : goal.returns-in_default
returns-in_default c = call_named_short c.args.peers c.args.name c.args.words.now c.in_default.len_below

pub returns : goal.returns
returns c =
    call_named_long c.args.peers c.args.name c.args.words.now _ _ _ c.call_from.result c.in-len4-up.len_at_least (sym c.has_empty.ensures ∙ c.if-has_empty.false)
    (c.if-operands-operand_count.false ∙ c.operand_count.ensures) c.call_from.ensures
