use Rattle.std.proofs.lemmas.Result.{err_from_is_err_and}
use Rattle.history_record.proofs.Refused.{stamp_refused}
use Rattle.history_record.proofs.lines.value_reply.Goals as goal

pub returns-in_err-stamp : goal.returns-in_err-stamp
returns-in_err-stamp c =
    let exit = err_from_is_err_and c.from_residual.result c.from_residual.ensures.1 in
    rw (exit.1, exit.2) (stamp_refused c.args.words.now _ c.in_err-stamp.field-0.0 c.in-len2.len_at_least c.in-len2.len_below c.in_err-stamp.ensures)
