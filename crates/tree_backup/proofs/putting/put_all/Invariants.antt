use Rattle.std.proofs.Common.{◌≤◌, drop}
use Rattle.tree_backup.proofs.Calls.{PutsOn}
use Rattle.tree_backup.proofs.putting.put_all.Given as goal

abbrev pub invariant-loop-object : goal.invariant-loop-object
invariant-loop-object g l = record {
  on : PutsOn g.B.Backend.may_answer g.B.Backend.may_refuse l.objects (drop l.object-index l.objects) l.fn.backend l.backend;
  later : g.B.Backend.fault_count l.fn.backend ≤ g.B.Backend.fault_count l.backend;
}
