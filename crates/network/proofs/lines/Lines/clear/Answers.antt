use Rattle.std.proofs.Common.{[], arith}
use Rattle.network.proofs.Queues.{queue_changed}
use Rattle.network.proofs.lines.Lines.clear.Goals as goal

pub returns-clause-empty : goal.returns-clause-empty
returns-clause-empty c =
    queue_changed (λ q. q.items) c.self.inside.lines.items c.args.place c.clear_all.new.queue c.args.self.now c.self.view_is (omega (arith, c.requires.place, c.self.invariant, c.self.inside.lines.ok.0)) (λ ns. []) c.clear_all.ensures.empty
