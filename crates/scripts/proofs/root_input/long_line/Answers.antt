use Rattle.std.proofs.Common.{ℕ, replicate, arith}
use Rattle.std.proofs.lemmas.List.{length-replicate}
use Rattle.scripts.specs.RootReading.{ended, next_line}
use Rattle.scripts.proofs.Numbered.{refused_long}
use Rattle.scripts.proofs.RootRefusing.{refuses_long}
use Rattle.scripts.proofs.Scripts.{script_numbered}
use Rattle.scripts.proofs.root_input.long_line.Goals as goal

pub returns-clause-refused : goal.returns-clause-refused
returns-clause-refused c = λ rest begins. rw c.from.ensures (refuses_long next_line ended rest c.args.reading.now c.long_line.result begins (refused_long script_numbered c.args.reading.now (replicate 4401 0) c.long_line.result (omega (arith, length-replicate {A = ℕ})) (c.long_line.ensures (replicate 4401 0) (omega (arith, length-replicate {A = ℕ})))))
