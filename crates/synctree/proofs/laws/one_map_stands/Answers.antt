use Rattle.synctree.specs.Sixteen.{form_of}
use Rattle.synctree.proofs.Unique.{one_stands}
use Rattle.synctree.proofs.Formats.{form_laws}
use Rattle.synctree.proofs.laws.one_map_stands.Goals as goal

pub returns : goal.returns
returns c = λ v d m n a b apart. one_stands (form_of v) (form_laws v) d m n a b apart
