use Rattle.synctree.specs.Outsides.{outside_does}
use Rattle.tree_repair.proofs.Unbroken.{scan_unbroken}
use Rattle.tree_repair.proofs.laws.damage_is_no_error.Goals as goal

pub returns : goal.returns
returns g c F top s t at did =
    scan_unbroken (outside_does g.N.NodeStore.may_answer g.N.NodeStore.top_record g.N.NodeStore.fault_count g.H.Hasher16.kept g.H.Hasher16.clashes g.H.Hasher16.fulls) F top s t did.0 at did.1
