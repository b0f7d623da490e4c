use Rattle.std.proofs.lemmas.Result.{IfOk-weaker}
use Rattle.replay.proofs.Completing.{read_whole, unread_read}
use Rattle.replay.proofs.job.replay_ending.Goals as goal

pub returns-in-Ok-clause-input : goal.returns-in-Ok-clause-input
returns-in-Ok-clause-input g c = IfOk-weaker c.run_ending.result _ _ (λ e calm. read_whole _ _ _ _ e.status c.read_schedule.ensures.taken c.in-Ok.ensures.end calm) c.run_ending.ensures.status

pub returns-in-Err-clause-input : goal.returns-in-Err-clause-input
returns-in-Err-clause-input g c = unread_read _ _ _ _ c.in-Err.error c.read_schedule.ensures.taken (λ is. c.in-Err.ensures.failed (cc)) (λ is. c.in-Err.ensures.cut (cc)) c.unread.result c.in-Err.ensures.bad c.unread.ensures.printed c.unread.ensures.status
