use Rattle.synctree.specs.Sixteen.{form_of}
use Rattle.synctree.proofs.Formats.{form_laws}
use Rattle.world_stores.proofs.Builds.{from_build, to_build}
use Rattle.world_stores.proofs.laws.a_build_has_the_nodes.Goals as goal

pub returns : goal.returns
returns c = λ tree m node. (from_build (form_of tree) (form_laws tree) m node, to_build (form_of tree) (form_laws tree) m node)
