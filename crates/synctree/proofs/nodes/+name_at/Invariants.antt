use Rattle.synctree.proofs.nodes.+name_at.Given as goal

abbrev pub decreases-name_at : goal.decreases-name_at
decreases-name_at g l = l.at.level
