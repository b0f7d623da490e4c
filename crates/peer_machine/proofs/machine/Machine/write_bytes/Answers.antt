use Rattle.std.proofs.Common.{subst}
use Rattle.peer_machine.specs.Outcomes.{Acts}
use Rattle.peer_spec.specs.Owns.{written_as}
use Rattle.peer_machine.proofs.machine.Machine.write_bytes.Goals as goal

pub returns : goal.returns
returns g c = subst (λ k. Acts g.S.Store.does g.S.Store.refuses (written_as c.args.object.now k) c.args.self.now c.args.hasher.now c.args.out.now c.written_as.result c.written_as.new.self c.written_as.new.hasher c.args.out.now) c.requires c.written_as.ensures
