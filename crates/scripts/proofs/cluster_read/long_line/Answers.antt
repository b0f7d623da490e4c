use Rattle.scripts.proofs.ClusterRefusing.{refuses_long}
use Rattle.scripts.proofs.cluster_read.long_line.Goals as goal

pub returns-clause-refused : goal.returns-clause-refused
returns-clause-refused c = λ rest begins. rw c.from.ensures (refuses_long c.args.reading.now.peers rest c.args.reading.now.lines.items c.long_line.result begins (λ text long. (c.long_line.ensures.line text long, c.long_line.ensures.rest text long)))
