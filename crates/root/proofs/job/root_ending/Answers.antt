use Rattle.std.proofs.lemmas.Result.{IfOk-weaker}
use Rattle.root.proofs.Ends.{ended_as, prints_as, read_whole, unread_prints, unread_status}
use Rattle.root.proofs.job.root_ending.Goals as goal

pub returns-in-Ok-clause-input : goal.returns-in-Ok-clause-input
returns-in-Ok-clause-input g c = IfOk-weaker c.run_ending.result _ _ (λ e calm. read_whole _ _ _ _ e.status c.read_root_script.ensures.taken c.in-Ok.ensures.end calm) c.run_ending.ensures.status

pub returns-in_ok-unread-in-Err-clause-printed : goal.returns-in_ok-unread-in-Err-clause-printed
returns-in_ok-unread-in-Err-clause-printed g c = prints_as _ _ _ _ _ _ _ c.as_bytes.ensures.status c.as_bytes.ensures.text (unread_prints _ _ _ _ _ (c.in_ok-unread-in-Err.ensures.printed _ c.in-Err.ensures.bad))

pub returns-in_ok-unread-in-Err-clause-input : goal.returns-in_ok-unread-in-Err-clause-input
returns-in_ok-unread-in-Err-clause-input g c =
    ended_as _ _ _ _ c.in_ok-unread-in-Err.field-0.status _ c.as_bytes.ensures.status (unread_status _ _ _ _ c.in-Err.error c.read_root_script.ensures.taken (λ is. c.in-Err.ensures.failed (cc)) (λ is. c.in-Err.ensures.cut (cc)) c.in_ok-unread-in-Err.field-0.status _ (c.in_ok-unread-in-Err.ensures.printed _ c.in-Err.ensures.bad) c.in_ok-unread-in-Err.ensures.status.1)
