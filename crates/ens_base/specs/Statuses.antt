-- The exit status of each ending.
use Rattle.std.specs.Prelude.{ℕ}
use Rattle.ens_base.specs.declared.status.Status.{Status}
use Rattle.ens_base.specs.declared.status.Status.TheVariants.{Done, Usage, Schedule, Premise, ReadFault, WriteFault, Clash, StoreFault, LinkFault, Limit, Memory, Backup}

-- the exit status of the process
abbrev pub status_number : Status → ℕ
status_number Done = 0
status_number Usage = 1
status_number Schedule = 2
status_number Premise = 3
status_number ReadFault = 4
status_number WriteFault = 5
status_number Clash = 6
status_number StoreFault = 7
status_number LinkFault = 8
status_number Limit = 9
status_number Memory = 10
status_number Backup = 12
