use Rattle.std.proofs.Common.{arith}
use Rattle.tree_backup.specs.Checks.{text_at}
use Rattle.tree_backup.proofs.Strings.{mapped_more}
use Rattle.tree_backup.proofs.hashing.texts_of.Goals as goal

pub loop-item-preserved : goal.loop-item-preserved
loop-item-preserved c = mapped_more text_at c.args.items.now c.loop-item.item-index c.item-item.result c.in_ok-text.text c.loop-item.texts.items _ (omega arith) c.item-item.is c.in_ok-text.ensures.ok c.loop-item.invariant c.in_ok-push.ensures.items
