use Rattle.std.proofs.lemmas.Result.{on_ok_weaker}
use Rattle.tree_backup.proofs.Written.{head_is}
use Rattle.tree_backup.proofs.writing.put_head.Goals as goal

pub returns-clause-ok : goal.returns-clause-ok
returns-clause-ok c = on_ok_weaker c.put_u32.result (λ h. head_is _ _ _ _ _ _ _ _ c.in_ok-put_u16.ensures.ok c.in_ok-put_u8.ensures.ok c.in_ok-put_u8-2.ensures.ok c.in_ok-put_digest.ensures.ok h) c.put_u32.ensures.ok
