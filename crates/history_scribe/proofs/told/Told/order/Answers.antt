use Rattle.history_scribe.proofs.Gathered.{order_begun}
use Rattle.history_scribe.proofs.told.Told.order.Goals as goal

pub loop-version-init : goal.loop-version-init
loop-version-init c = λ notes key told.
    order_begun c.args.self.now notes key c.in_ok-calls.calls.items c.of.result.now _ told c.of.ensures c.in_ok-calls.ensures.items (c.in_ok-versions.ensures notes key told)
