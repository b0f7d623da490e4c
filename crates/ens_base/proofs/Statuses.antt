-- Statuses that differ.
use Rattle.std.proofs.Common.{◌≡◌}
use Rattle.ens_base.specs.declared.status.Status.{Status}

pub memory_not_done : ◌≡◌ {A = Status} Status.Memory Status.Done → ⊥
memory_not_done e = cc e

pub memory_no_fault : ◌≡◌ {A = Status} Status.Memory Status.ReadFault → ⊥
memory_no_fault e = cc e
