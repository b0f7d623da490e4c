use Rattle.tree_repair.proofs.Roots.{install_leaves}
use Rattle.tree_repair.proofs.tops.an_install_leaves_the_old_or_the_new_record.Goals as goal

pub returns : goal.returns
returns g c = install_leaves g.N.NodeStore.may_answer g.N.NodeStore.may_refuse g.N.NodeStore.top_record g.N.NodeStore.fault_count
