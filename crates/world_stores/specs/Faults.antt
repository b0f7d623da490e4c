-- The failures of a store of a schedule.
use Rattle.std.specs.Prelude.{Some, None}
use Rattle.ens_base.specs.Causes.{counted}
use Rattle.environment.specs.declared.memory.failing_call.Leaves.{Leaves}
use Rattle.world_stores.specs.declared.faults.Faults.{Faults}

-- no failure waits, and none has happened
abbrev pub no_faults : Faults
no_faults = record { pending = None; count = 0 }

-- the next write fails and leaves this, in place of a failure that waits
abbrev pub awaiting : Leaves → Faults → Faults
awaiting leaves f = record f { pending = Some leaves }

-- one more call failed, and no failure waits any more
abbrev pub spent : Faults → Faults
spent f = record { pending = None; count = counted f.count }
