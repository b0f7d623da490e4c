use Rattle.std.proofs.Common.{◌<◌, length, ap, arith, ◌∙◌}
use Rattle.network.specs.Lines.{from_waiting}
use Rattle.network.proofs.Queues.{queue_read, queue_changed}
use Rattle.network.proofs.lines.Lines.skip.Goals as goal

pub returns : goal.returns
returns c =
    let within : c.args.place < length c.self.inside.lines.items = omega (arith, c.requires.place, c.self.invariant, c.self.inside.lines.ok.0) in
    let queue = queue_read (λ q. q.items) c.self.inside.lines.items c.args.place c.index_mut.result.now c.args.self.now c.self.view_is within c.index_mut.ensures.value in
    queue_changed (λ q. q.items) c.self.inside.lines.items c.args.place c.skip_settled.new.queue c.args.self.now c.self.view_is within (from_waiting c.args.waiting.now) (c.skip_settled.ensures ∙ ap (from_waiting c.args.waiting.now) queue)
