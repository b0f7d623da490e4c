use Rattle.std.proofs.Common.{refl, ◌∙◌, arith}
use Rattle.disk_stores.proofs.Scanning.{told_also, told_at, stay_at, stays_on, scanned_more}
use Rattle.disk_stores.proofs.scan.scan.Goals as goal

pub loop-index-preserved : goal.loop-index-preserved
loop-index-preserved g c =
    let within = rw c.in-Some.is at c.in_ok-found.ensures.within in
    let next = rw c.in-Some.is at c.in_ok-found.ensures.next in
    record {
      within = omega (arith, within.1);
      same = c.loop-index.invariant.same;
      seen = stays_on (g.D.Disk.seen c.args.disk.now) (g.D.Disk.seen c.loop-index.disk) (g.D.Disk.seen c.next_record.new.disk) c.loop-index.invariant.seen c.in_ok-found.ensures.seen;
      faults = c.in_ok-found.ensures.good ∙ c.loop-index.invariant.faults;
      scanned = told_also (g.D.Disk.seen c.args.disk.now)
          (λ file is k. (
            k.0,
            scanned_more file c.loop-index.index _ c.in-Some.found k.1
                (told_at _ (g.D.Disk.seen c.loop-index.disk) file (stay_at (g.D.Disk.seen c.args.disk.now) (g.D.Disk.seen c.loop-index.disk) file is c.loop-index.invariant.seen) next k.0 c.loop-index.invariant.within)
                refl c.in_ok-insert.ensures.updates.0,
          ))
          c.loop-index.invariant.scanned;
    }
