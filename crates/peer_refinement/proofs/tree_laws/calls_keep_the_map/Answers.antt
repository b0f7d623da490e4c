use Rattle.peer_refinement.proofs.Keeping.{finds, reads, scans, enters, makes, installs, keeps, versions, grows, hashes, spares}
use Rattle.peer_refinement.proofs.tree_laws.calls_keep_the_map.Goals as goal

pub returns-clause-finds : goal.returns-clause-finds
returns-clause-finds c = finds

pub returns-clause-reads : goal.returns-clause-reads
returns-clause-reads c = reads

pub returns-clause-scans : goal.returns-clause-scans
returns-clause-scans c = scans

pub returns-clause-enters : goal.returns-clause-enters
returns-clause-enters c = enters

pub returns-clause-makes : goal.returns-clause-makes
returns-clause-makes c = makes

pub returns-clause-installs : goal.returns-clause-installs
returns-clause-installs c = installs

pub returns-clause-keeps : goal.returns-clause-keeps
returns-clause-keeps c = keeps

pub returns-clause-versions : goal.returns-clause-versions
returns-clause-versions c = versions

pub returns-clause-hashed : goal.returns-clause-hashed
returns-clause-hashed c = grows

pub returns-clause-hashes : goal.returns-clause-hashes
returns-clause-hashes c = hashes

pub returns-clause-stores : goal.returns-clause-stores
returns-clause-stores c = spares
