use Rattle.std.proofs.Common.{sym, ◌∙◌}
use Rattle.scripts.proofs.Openings.{open_long, open_short}
use Rattle.scripts.proofs.call_lines.open_words.Goals as goal

pub returns-in_default : goal.returns-in_default
returns-in_default c = open_short c.args.peers c.args.words.now c.in_default.len_below

pub returns : goal.returns
returns c =
    open_long c.args.peers c.args.words.now _ _ _ c.open_from.result c.in-len3-up.len_at_least (sym c.has_empty.ensures ∙ c.if-has_empty.false) (sym c.is_empty.ensures ∙ c.if-is_empty.false)
    c.open_from.ensures
