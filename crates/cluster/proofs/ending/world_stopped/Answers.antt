use Rattle.ens_base.specs.declared.status.Status.TheVariants as Status
use Rattle.cluster.specs.declared.stop.Stop.TheVariants.{World as OfWorld}
use Rattle.cluster.proofs.Printing.{book_stops, clash_stops, messages_stop, stop_made}
use Rattle.cluster.proofs.ending.world_stopped.Goals as goal

pub returns-in_ok-clash_text-in-Clash : goal.returns-in_ok-clash_text-in-Clash
returns-in_ok-clash_text-in-Clash c = clash_stops c.args.error c.in-Clash.first c.in-Clash.second _ c.in-Clash.is c.in_ok-clash_text-in-Clash.ensures

pub returns-in-BookFull : goal.returns-in-BookFull
returns-in-BookFull c = stop_made c.new.result (OfWorld c.args.error) Status.Limit _ (book_stops c.args.error _ c.in-BookFull.is) c.new.ensures

pub returns-in-MessageLimit : goal.returns-in-MessageLimit
returns-in-MessageLimit c = stop_made c.new-in-MessageLimit.result (OfWorld c.args.error) Status.Limit _ (messages_stop c.args.error c.in-MessageLimit.is) c.new-in-MessageLimit.ensures
