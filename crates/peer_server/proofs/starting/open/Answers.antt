use Rattle.peer_server.proofs.Finishing.{if_err_both}
use Rattle.peer_server.proofs.Opening.{if_ok_all, logs_opened, logs_unopened}
use Rattle.peer_server.specs.Faults.{status_of}
use Rattle.peer_server.proofs.starting.open.Goals as goal

pub returns-in-Ok-clause-opened : goal.returns-in-Ok-clause-opened
returns-in-Ok-clause-opened g c =
    if_ok_all c.open_logs.result c.open_logs.ensures.file c.open_logs.ensures.held c.open_logs.ensures.opened
    (λ s same held opened.
    logs_opened g.D.Disk.seen g.D.Disk.may_leave g.D.Disk.moment g.D.Disk.left_since g.D.Disk.fault_count c.args.disks c.in-Ok.facts s c.in-Ok.ensures.at_rest c.in-Ok.ensures.good c.in-Ok.ensures.spent c.in-Ok.ensures.any_moment c.in-Ok.ensures.seen same held opened)

pub returns-in-Ok-clause-unopened : goal.returns-in-Ok-clause-unopened
returns-in-Ok-clause-unopened g c =
    if_err_both c.open_logs.result c.open_logs.ensures.kept c.open_logs.ensures.refused
    (λ r same refused.
    logs_unopened g.D.Disk.seen g.D.Disk.may_leave g.D.Disk.moment g.D.Disk.left_since g.D.Disk.fault_count g.met.D.Disk.may_stay (status_of r.error) c.args.disks r.held c.in-Ok.facts.slots.disk c.in-Ok.ensures.crash c.in-Ok.ensures.any_moment c.in-Ok.ensures.seen same refused)
