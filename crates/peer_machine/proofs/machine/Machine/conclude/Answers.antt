use Rattle.std.proofs.Common.{◌∙◌, sym}
use Rattle.step_plans.specs.Outboxes.{out_of}
use Rattle.peer_machine.proofs.Concluding.{nothing_done}
use Rattle.peer_machine.proofs.machine.Machine.conclude.Goals as goal

pub returns-then-not-changes-clause-acts : goal.returns-then-not-changes-clause-acts
returns-then-not-changes-clause-acts g c =
    nothing_done g.S.Store.does g.S.Store.refuses c.args.me c.args.self.now.state (out_of c.args.out.now) (c.args.self.now.stores, c.args.hasher.now) c.args.out.now.notes.items (sym c.changes.ensures ∙ c.if-not-changes.true)
