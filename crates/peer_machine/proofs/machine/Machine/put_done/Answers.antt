use Rattle.std.proofs.Common.{sym, subst}
use Rattle.peer_spec.specs.Drives.{put_done}
use Rattle.peer_machine.specs.Outcomes.{Acts}
use Rattle.peer_machine.proofs.machine.Machine.put_done.Goals as goal

pub returns-in-Put-clause-acts : goal.returns-in-Put-clause-acts
returns-in-Put-clause-acts g c = subst (λ k. Acts g.S.Store.does g.S.Store.refuses (put_done k c.args.me c.args.from c.args.ballot c.args.object.now c.args.row) c.args.self.now c.args.hasher.now c.args.out.now c.write_put.result c.write_put.new.self c.write_put.new.hasher c.write_put.new.out)
    (sym c.in-Put.is) c.write_put.ensures.acts
