use Rattle.std.proofs.Common.{◌≤◌, drop}
use Rattle.tree_backup.proofs.Calls.{FetchesOn}
use Rattle.tree_backup.proofs.fetching.fetch_items.Given as goal

abbrev pub invariant-loop-entry : goal.invariant-loop-entry
invariant-loop-entry g l = record {
  on : FetchesOn g.B.Backend.may_answer g.B.Backend.may_refuse l.entries (drop l.entry-index l.entries) l.items.items l.fn.backend l.backend;
  later : g.B.Backend.fault_count l.fn.backend ≤ g.B.Backend.fault_count l.backend;
}
