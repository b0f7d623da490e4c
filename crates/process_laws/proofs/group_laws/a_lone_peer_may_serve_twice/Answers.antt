use Rattle.process_laws.proofs.Alone.{once, twice}
use Rattle.process_laws.proofs.group_laws.a_lone_peer_may_serve_twice.Goals as goal

pub returns-clause-once : goal.returns-clause-once
returns-clause-once g c = once g.D.Disk.seen g.D.Disk.may_leave g.D.Disk.moment g.D.Disk.left_since g.D.Disk.fault_count g.L.Link.sent g.L.Link.given g.L.Link.fault_count g.T.Ticker.coming

pub returns-clause-twice : goal.returns-clause-twice
returns-clause-twice g c = twice g.D.Disk.seen g.D.Disk.may_leave g.D.Disk.moment g.D.Disk.left_since g.D.Disk.fault_count g.L.Link.sent g.L.Link.given g.L.Link.fault_count g.T.Ticker.coming
