use Rattle.std.proofs.Common.{sym, subst}
use Rattle.peer_spec.specs.Drives.{owned}
use Rattle.peer_machine.specs.Outcomes.{Acts}
use Rattle.peer_machine.proofs.machine.Machine.owned.Goals as goal

pub returns-in-Put : goal.returns-in-Put
returns-in-Put g c = subst (λ k. Acts g.S.Store.does g.S.Store.refuses (owned k) c.args.self.now c.args.hasher.now c.args.out.now c.written.result c.written.new.self c.written.new.hasher c.args.out.now)
    (sym c.in-Put.is) c.written.ensures
