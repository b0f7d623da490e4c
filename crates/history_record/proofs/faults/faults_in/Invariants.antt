use Rattle.std.proofs.Common.{take}
use Rattle.history_record.specs.Faults.{AreFaults}
use Rattle.history_record.proofs.faults.faults_in.Given as goal

abbrev pub invariant-loop-history : goal.invariant-loop-history
invariant-loop-history l = AreFaults l.calls l.answers (take l.history-index l.histories) l.faults.items
