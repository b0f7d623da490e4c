use Rattle.std.proofs.Common.{◌∙◌, sym}
use Rattle.tree_backup.proofs.Matches.{digest_at, mismatch_next}
use Rattle.tree_backup.proofs.matching.mismatch.Goals as goal

pub matches-requires : goal.matches-requires
matches-requires c = digest_at c.args.items.now c.args.digests.now c.loop-i.i c.index-items-i.result c.index-digests-i.result c.requires c.loop-i-test.true c.index-items-i.is c.index-digests-i.is

pub loop-i-preserved : goal.loop-i-preserved
loop-i-preserved c = mismatch_next c.args.items.now c.loop-i.i c.index-items-i.result c.loop-i-test.true c.index-items-i.is (sym c.matches.ensures ∙ c.if-not-matches.false) c.loop-i.invariant
