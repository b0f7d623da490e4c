use Rattle.peer_refinement.proofs.Whole.{finds, reads, scans, enters, makes, installs, opens, keeps, records, serves}
use Rattle.peer_refinement.proofs.tree_laws.whole_trees_have_no_damage.Goals as goal

pub returns-clause-finds : goal.returns-clause-finds
returns-clause-finds c = finds

pub returns-clause-reads : goal.returns-clause-reads
returns-clause-reads c = reads

pub returns-clause-scans : goal.returns-clause-scans
returns-clause-scans c = scans

pub returns-clause-enters : goal.returns-clause-enters
returns-clause-enters c = enters

pub returns-clause-makes : goal.returns-clause-makes
returns-clause-makes c = makes

pub returns-clause-installs : goal.returns-clause-installs
returns-clause-installs c = installs

pub returns-clause-opens : goal.returns-clause-opens
returns-clause-opens c = opens

pub returns-clause-keeps : goal.returns-clause-keeps
returns-clause-keeps c = keeps

pub returns-clause-records : goal.returns-clause-records
returns-clause-records c = records

pub returns-clause-serves : goal.returns-clause-serves
returns-clause-serves c = serves
