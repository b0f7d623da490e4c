use Rattle.peer_refinement.proofs.Tops.{enters, installs, makes, keeps}
use Rattle.peer_refinement.proofs.tree_laws.top_records_name_maps.Goals as goal

pub returns-clause-enters : goal.returns-clause-enters
returns-clause-enters c = enters

pub returns-clause-installs : goal.returns-clause-installs
returns-clause-installs c = installs

pub returns-clause-makes : goal.returns-clause-makes
returns-clause-makes c = makes

pub returns-clause-keeps : goal.returns-clause-keeps
returns-clause-keeps c = keeps
