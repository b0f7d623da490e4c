use Rattle.synctree.specs.Sixteen.{form_of}
use Rattle.synctree.proofs.Formats.{form_laws}
use Rattle.world_stores.proofs.Builds.{build_holds}
use Rattle.world_stores.proofs.laws.a_stored_build_holds_its_map.Goals as goal

pub returns : goal.returns
returns c = λ tree s m ok apart top entries. build_holds (form_of tree) (form_laws tree) s m ok apart top entries
