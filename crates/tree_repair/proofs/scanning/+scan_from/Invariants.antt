use Rattle.tree_repair.proofs.scanning.+scan_from.Given as goal

abbrev pub decreases-scan_from : goal.decreases-scan_from
decreases-scan_from g l = l.height
