use Rattle.std.proofs.Common.{refl}
use Rattle.ens_base.specs.declared.status.Status.TheVariants as Status
use Rattle.cluster.proofs.Outcomes.{ended_as, ends_as, memory_taken}
use Rattle.cluster.proofs.job.cluster_with.Goals as goal

pub returns-in-Ok-clause-printed : goal.returns-in-Ok-clause-printed
returns-in-Ok-clause-printed g c = λ wrote.
    let done = c.print.ensures.written wrote in
    (_, ends_as g.L.Link.sent g.L.Link.given g.L.Link.fault_count c.args.words.now _ c.args.link.now _ _ _ _ _ _ _ done.0 refl c.in-Ok.ensures.ends, done.1)

pub returns-in-Ok-clause-prefix : goal.returns-in-Ok-clause-prefix
returns-in-Ok-clause-prefix g c = λ fault. (c.in-Ok.printout.status, _, c.in-Ok.ensures.ends, c.in-Ok.ensures.read, c.print.ensures.prefix fault)

pub returns-in-Ok-clause-input : goal.returns-in-Ok-clause-input
returns-in-Ok-clause-input g c = λ wrote. ended_as c.args.words.now _ _ _ _ _ _ (c.print.ensures.written wrote).0 c.in-Ok.ensures.read

pub returns-in-Err-clause-printed : goal.returns-in-Err-clause-printed
returns-in-Err-clause-printed g c = λ wrote.
    let done = c.finish.ensures.written wrote in
    (_, ends_as g.L.Link.sent g.L.Link.given g.L.Link.fault_count c.args.words.now _ c.args.link.now _ _ _ _ _ _ _ done.0 refl c.in-Err.ensures.memory, done.1)

pub returns-in-Err-clause-prefix : goal.returns-in-Err-clause-prefix
returns-in-Err-clause-prefix g c = λ fault. (Status.Memory, _, c.in-Err.ensures.memory, memory_taken c.args.words.now _ _ _ _ c.cluster_ending.ensures.taken, c.finish.ensures.prefix fault)

pub returns-in-Err-clause-input : goal.returns-in-Err-clause-input
returns-in-Err-clause-input g c = λ wrote. ended_as c.args.words.now _ _ _ _ _ _ (c.finish.ensures.written wrote).0 (memory_taken c.args.words.now _ _ _ _ c.cluster_ending.ensures.taken)
