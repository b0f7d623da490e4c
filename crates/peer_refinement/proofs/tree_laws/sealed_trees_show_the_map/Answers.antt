use Rattle.peer_refinement.proofs.Rooted as rooted
use Rattle.peer_refinement.proofs.tree_laws.sealed_trees_show_the_map.Goals as goal

pub returns-clause-finds : goal.returns-clause-finds
returns-clause-finds c = rooted.finds

pub returns-clause-reads : goal.returns-clause-reads
returns-clause-reads c = rooted.reads

pub returns-clause-scans : goal.returns-clause-scans
returns-clause-scans c = rooted.scans

pub returns-clause-enters : goal.returns-clause-enters
returns-clause-enters c = rooted.enters

pub returns-clause-keeps : goal.returns-clause-keeps
returns-clause-keeps c = rooted.keeps

pub returns-clause-opens : goal.returns-clause-opens
returns-clause-opens c = rooted.opens

pub returns-clause-reopens : goal.returns-clause-reopens
returns-clause-reopens c = rooted.reopens

pub returns-clause-versions : goal.returns-clause-versions
returns-clause-versions c = rooted.opens_in
