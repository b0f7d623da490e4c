use Rattle.ens_base.specs.declared.status.Status.TheVariants as Status
use Rattle.cluster.specs.declared.stop.Stop.TheVariants.{Link as OfLink}
use Rattle.cluster.proofs.Printing.{link_stops, stop_made}
use Rattle.cluster.proofs.ending.link_stopped.Goals as goal

pub returns-in-Failed : goal.returns-in-Failed
returns-in-Failed c = stop_made c.new.result (OfLink c.args.error) Status.LinkFault _ (link_stops c.args.error c.in-Failed.is) c.new.ensures
