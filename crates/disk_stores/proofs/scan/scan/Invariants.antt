use Rattle.std.proofs.Common.{◌≡◌, ◌≤◌, ◌-◌, length}
use Rattle.slot_disk.specs.Crash.{Told, Stay}
use Rattle.disk_stores.specs.Scans.{IsScanned}
use Rattle.disk_stores.proofs.scan.scan.Given as goal

abbrev pub invariant-loop-index : goal.invariant-loop-index
invariant-loop-index g l = record {
  within : l.index.end ≤ l.size;
  same : l.index.size ≡ l.size;
  seen : Stay (g.D.Disk.seen l.fn.disk) (g.D.Disk.seen l.disk);
  faults : g.D.Disk.fault_count l.disk ≡ g.D.Disk.fault_count l.fn.disk;
  scanned : Told (g.D.Disk.seen l.fn.disk) (λ file. (l.size ≡ length file) × IsScanned file l.index);
}

abbrev pub decreases-loop-index : goal.decreases-loop-index
decreases-loop-index g l = l.size - l.index.end
