use Rattle.std.proofs.Common.{◌∙◌, ap, sym, refl, arith}
use Rattle.tree_repair.proofs.Filling.{fills_more}
use Rattle.tree_repair.specs.Hashers.{digest_if}
use Rattle.tree_backup.specs.Checks.{text_at}
use Rattle.tree_backup.specs.Runs.{matched}
use Rattle.tree_backup.specs.declared.item.Item.{Item}
use Rattle.tree_backup.proofs.Matches.{digest_at, unchanged_at}
use Rattle.tree_backup.proofs.matching.keep_matched.Goals as goal

pub keep_if_matched-requires : goal.keep_if_matched-requires
keep_if_matched-requires c =
    digest_at c.args.items.now c.args.digests.now c.loop-i.i c.index-items-i.result c.index-digests-i.result c.requires (omega arith) (unchanged_at matched c.args.items.now c.loop-i.items c.loop-i.i c.index-items-i.result (omega arith) c.loop-i.invariant c.index-items-i.is) c.index-digests-i.is
    ∙ ap (λ (x : Item). digest_if (text_at x)) c.index-items-i.is

pub loop-i-preserved : goal.loop-i-preserved
loop-i-preserved c = fills_more matched c.args.items.now c.args.items.now c.loop-i.items c.loop-i.i c.index-items-i.result c.keep_if_matched.new.item (omega arith) refl c.loop-i.invariant
    (unchanged_at matched c.args.items.now c.loop-i.items c.loop-i.i c.index-items-i.result (omega arith) c.loop-i.invariant c.index-items-i.is) (c.keep_if_matched.ensures ∙ ap matched (sym c.index-items-i.is))
