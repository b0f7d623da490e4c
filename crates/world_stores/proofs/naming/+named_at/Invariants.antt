use Rattle.world_stores.proofs.naming.+named_at.Given as goal

abbrev pub decreases-named_at : goal.decreases-named_at
decreases-named_at l = l.at.level
