use Rattle.history_scribe.proofs.Chains.{climbs}
use Rattle.history_scribe.proofs.Ranks.{rank_positive}
use Rattle.history_scribe.proofs.told.Told.chain.Goals as goal

pub loop-next-preserved : goal.loop-next-preserved
loop-next-preserved c = λ notes key told.
    climbs notes key c.loop-next.versions.items c.push.new.self.items c.in-Some.version _ _ c.in_ok-push.ensures.items (c.parent_of-next.ensures.told notes key told) (rank_positive c.in-Some.version) (rw c.in-Some.is at (c.loop-next.invariant notes key told))
