use Rattle.root.proofs.Calls.{orders_kept}
use Rattle.root.proofs.histories.keep_orders.Goals as goal

pub returns : goal.returns
returns c = orders_kept c.keep_calls.result c.args.world.now c.in_ok-histories.field-0.items c.args.calls.now c.keep_calls.new.calls c.in_ok-histories.ensures c.keep_calls.ensures
