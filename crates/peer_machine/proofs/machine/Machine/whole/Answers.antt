use Rattle.std.proofs.Common.{rules}
use Rattle.peer_machine.specs.Outcomes.{spot}
use Rattle.peer_spec.proofs.FreeRows.{still_steady}
use Rattle.peer_machine.proofs.machine.Machine.whole.Goals as goal

pub returns-in_err-conclude-clause-fits : goal.returns-in_err-conclude-clause-fits
returns-in_err-conclude-clause-fits g c = λ is quiet steady room.
    let end = still_steady g.S.Store.does g.S.Store.refuses c.args.me c.args.event.now (spot c.args.self.now c.args.hasher.now c.args.out.now) (spot c.respond.new.self c.respond.new.hasher c.respond.new.out) c.in_ok-respond.ensures.acts c.requires.come is steady in
    let no = c.in_err-conclude.ensures.fits end in
    search (rules, no)
