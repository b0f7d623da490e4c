use Rattle.peer_server.proofs.Finishing.{ends_ill, ends_well}
use Rattle.peer_server.specs.DiskPeers.{all_there}
use Rattle.peer_server.proofs.job.serve.Goals as goal

pub returns-in-Ok-clause-ended : goal.returns-in-Ok-clause-ended
returns-in-Ok-clause-ended g c =
    ends_well g.D.Disk.seen g.D.Disk.may_leave g.D.Disk.moment g.D.Disk.left_since g.D.Disk.fault_count g.L.Link.sent g.L.Link.given g.L.Link.fault_count g.T.Ticker.coming c.args.words.now c.args.link.now c.run-ended.new.link c.args.ticker.now c.run-ended.new.ticker
    (g.O.Sink.written c.args.output.now) (g.O.Sink.written c.print_counts.new.output) (g.O.Sink.fault_count c.args.output.now) (g.O.Sink.fault_count c.print_counts.new.output) c.print_counts.result c.args.disks.now c.put.new.disks (all_there c.take-three.result) (all_there c.run-ended.result.disks) c.take-three.ensures
    c.put.ensures c.in-Ok.counts (rw c.in-Ok.is at c.run-ended.ensures.served) c.print_counts.ensures

pub returns-in-Err-clause-ended : goal.returns-in-Err-clause-ended
returns-in-Err-clause-ended g c =
    ends_ill g.D.Disk.seen g.D.Disk.may_leave g.D.Disk.moment g.D.Disk.left_since g.D.Disk.fault_count g.L.Link.sent g.L.Link.given g.L.Link.fault_count g.T.Ticker.coming c.args.words.now c.args.link.now c.run-ended.new.link c.args.ticker.now c.run-ended.new.ticker
    (g.O.Sink.written c.args.output.now) (g.O.Sink.written c.print_fault.new.output) (g.O.Sink.fault_count c.args.output.now) (g.O.Sink.fault_count c.print_fault.new.output) c.print_fault.result c.args.disks.now c.put.new.disks (all_there c.take-three.result) (all_there c.run-ended.result.disks) c.take-three.ensures
    c.put.ensures c.in-Err.error (rw c.in-Err.is at c.run-ended.ensures.failed) c.print_fault.ensures
