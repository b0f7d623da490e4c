use Rattle.std.proofs.Common.{subst}
use Rattle.peer_machine.specs.Outcomes.{Acts}
use Rattle.peer_spec.specs.Owns.{confirmed_as}
use Rattle.peer_machine.proofs.machine.Machine.confirm_bytes.Goals as goal

pub returns : goal.returns
returns g c = subst (λ k. Acts g.S.Store.does g.S.Store.refuses (confirmed_as c.args.entry.now c.args.object.now k) c.args.self.now c.args.hasher.now c.args.out.now c.confirmed_as.result c.confirmed_as.new.self c.confirmed_as.new.hasher c.args.out.now) c.requires c.confirmed_as.ensures
