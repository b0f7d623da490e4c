use Rattle.std.proofs.Common.{sym, ◌∙◌}
use Rattle.history_record.proofs.Spelled.{history_known}
use Rattle.history_record.proofs.lines.history.Goals as goal

pub returns : goal.returns
returns c = history_known c.args.words.now _ c.history_words.result c.in-len1-up.len_at_least (sym c.has_empty.ensures ∙ c.if-has_empty.false) c.history_words.ensures
