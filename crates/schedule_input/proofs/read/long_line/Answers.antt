use Rattle.std.proofs.Common.{ℕ, replicate, arith}
use Rattle.std.proofs.lemmas.List.{length-replicate}
use Rattle.schedule_input.proofs.Parts.{refuses_long}
use Rattle.schedule_input.proofs.read.long_line.Goals as goal

pub returns-clause-refused : goal.returns-clause-refused
returns-clause-refused c = λ rest begins. rw c.from.ensures (refuses_long rest c.args.reading.now (replicate 4401 0) c.long_line.result begins (omega (arith, length-replicate {A = ℕ})) (c.long_line.ensures (replicate 4401 0) (omega (arith, length-replicate {A = ℕ}))))
