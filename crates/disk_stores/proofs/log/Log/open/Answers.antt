use Rattle.std.proofs.Common.{refl}
use Rattle.disk_stores.specs.Records.{entries_of}
use Rattle.disk_stores.proofs.Scanning.{told_also}
use Rattle.disk_stores.proofs.Opening.{opens_holds}
use Rattle.disk_stores.proofs.log.Log.open.Goals as goal

pub returns-in-Ok-clause-holds : goal.returns-in-Ok-clause-holds
returns-in-Ok-clause-holds g c =
    told_also (g.D.Disk.seen c.args.disk) (λ file is all. opens_holds g.D.Disk.seen _ c.in-Ok.index file all.0 all.1 refl refl (c.new-in-Ok.ensures (entries_of file))) c.in-Ok.ensures.all
