use Rattle.synctree.proofs.entering.+enter.Given as goal

abbrev pub decreases-enter : goal.decreases-enter
decreases-enter g l = l.height
