use Rattle.audit.proofs.Parts.{refuses_long}
use Rattle.audit.proofs.read.long_line.Goals as goal

pub returns-clause-refused : goal.returns-clause-refused
returns-clause-refused c = λ rest begins. rw c.from.ensures (refuses_long rest c.args.reading.now c.long_line.result begins (λ t long. (c.long_line.ensures.line t long, c.long_line.ensures.rest t long)))
