use Rattle.ens_base.specs.declared.status.Status.TheVariants as Status
use Rattle.cluster.specs.declared.stop.Stop.TheVariants.{World as OfWorld, Link as OfLink}
use Rattle.cluster.proofs.Printing.{lines_text, made_as, stop_made}
use Rattle.cluster.proofs.ending.stopped.Goals as goal

pub returns-in-Lines : goal.returns-in-Lines
returns-in-Lines c = stop_made c.new.result c.args.stop Status.Limit _ (lines_text c.args.stop c.in-Lines.is) c.new.ensures

pub returns-in-World : goal.returns-in-World
returns-in-World c = made_as c.world_stopped.result c.args.stop (OfWorld c.in-World.error) c.in-World.is c.world_stopped.ensures

pub returns-in-Link : goal.returns-in-Link
returns-in-Link c = made_as c.link_stopped.result c.args.stop (OfLink c.in-Link.error) c.in-Link.is c.link_stopped.ensures
