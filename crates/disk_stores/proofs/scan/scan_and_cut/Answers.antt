use Rattle.std.proofs.Common.{take, refl}
use Rattle.disk_stores.proofs.Scanning.{told_also, told_at, stay_at, scan_all, scan_torn}
use Rattle.disk_stores.proofs.scan.scan_and_cut.Goals as goal

pub returns-then-index-clause-map : goal.returns-then-index-clause-map
returns-then-index-clause-map g c =
    told_also (g.D.Disk.seen c.args.disk.now) (λ file is all. (file, stay_at (g.D.Disk.seen c.args.disk.now) (g.D.Disk.seen c.scan.new.disk) file is c.scan.ensures.seen, refl)) c.in_ok-index.ensures.all

pub returns-in-Ok-clause-map : goal.returns-in-Ok-clause-map
returns-in-Ok-clause-map g c =
    told_also (g.D.Disk.seen c.args.disk.now)
    (λ file is all. (
      take c.in_ok-index.index.end file,
      told_at _ (g.D.Disk.seen c.scan.new.disk) file (stay_at (g.D.Disk.seen c.args.disk.now) (g.D.Disk.seen c.scan.new.disk) file is c.scan.ensures.seen) c.in-Ok.ensures.cut,
      scan_all file c.in_ok-index.index all,
    ))
    c.in_ok-index.ensures.all

pub returns-in-Err-clause-map : goal.returns-in-Err-clause-map
returns-in-Err-clause-map g c =
    told_also (g.D.Disk.seen c.args.disk.now)
    (λ file is all.
    let torn = told_at _ (g.D.Disk.seen c.scan.new.disk) file (stay_at (g.D.Disk.seen c.args.disk.now) (g.D.Disk.seen c.scan.new.disk) file is c.scan.ensures.seen) c.in-Err.ensures.failed in
    (torn.0, torn.1, scan_torn file torn.0 c.in_ok-index.index all torn.2))
    c.in_ok-index.ensures.all
