use Rattle.process_laws.proofs.Several.{peers_join}
use Rattle.process_laws.proofs.group_laws.served_peers_may_be_joined.Goals as goal

pub returns : goal.returns
returns g c = peers_join g.D.Disk.seen g.D.Disk.may_leave g.D.Disk.moment g.D.Disk.left_since g.D.Disk.fault_count g.L.Link.sent g.L.Link.given g.L.Link.fault_count g.T.Ticker.coming
