use Rattle.std.proofs.lemmas.Result.{on_ok_weaker}
use Rattle.tree_backup.proofs.Written.{backup_is}
use Rattle.tree_backup.proofs.writing.put_backup.Goals as goal

pub returns-clause-ok : goal.returns-clause-ok
returns-clause-ok c = on_ok_weaker c.put_items.result (λ h. backup_is _ _ _ c.args.top.now c.args.items.now c.args.count c.requires c.in_ok-put_head.ensures.ok h) c.put_items.ensures.ok
