use Rattle.tree_repair.proofs.Roots.{fresh_leaves}
use Rattle.tree_repair.proofs.tops.an_empty_map_leaves_the_old_or_the_new_record.Goals as goal

pub returns : goal.returns
returns g c = fresh_leaves g.N.NodeStore.may_answer g.N.NodeStore.may_refuse g.N.NodeStore.top_record g.N.NodeStore.fault_count g.H.Hasher16.kept g.H.Hasher16.clashes g.H.Hasher16.fulls
