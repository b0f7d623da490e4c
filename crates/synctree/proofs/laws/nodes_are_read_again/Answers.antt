use Rattle.synctree.proofs.Formats.{form_laws, form_shape}
use Rattle.synctree.proofs.laws.nodes_are_read_again.Goals as goal

pub returns-clause-laws : goal.returns-clause-laws
returns-clause-laws c = form_laws

pub returns-clause-shape : goal.returns-clause-shape
returns-clause-shape c = form_shape
