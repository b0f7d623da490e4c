use Rattle.tree_exchange.proofs.children.+up.Given as goal

abbrev pub decreases-up : goal.decreases-up
decreases-up l = l.levels
