use Rattle.synctree.specs.Outsides.{outside_does}
use Rattle.tree_repair.proofs.Walking.{scan_gives}
use Rattle.tree_repair.proofs.laws.a_scan_goes_by_depth.Goals as goal

pub returns : goal.returns
returns g c F top s t strings scan ends = scan_gives F (outside_does g.N.NodeStore.may_answer g.N.NodeStore.top_record g.N.NodeStore.fault_count g.H.Hasher16.kept g.H.Hasher16.clashes g.H.Hasher16.fulls) top s t strings scan ends
