-- Events that own no memory.
use Rattle.schedule_text.specs.declared.event.ScheduleEvent.{ScheduleEvent}
use Rattle.schedule_text.specs.declared.event.ScheduleEvent.TheVariants.{Call, CalmAmong, Spoil, Damage, Inner}

-- an event that names no key and no bytes, and lists no members
abbrev pub IsPlain : ScheduleEvent → Type 0
IsPlain (Call peer id key command) = ⊥
IsPlain (CalmAmong members) = ⊥
IsPlain (Spoil peer key bytes) = ⊥
IsPlain (Damage peer key bytes) = ⊥
IsPlain (Inner peer level index bytes) = ⊥
IsPlain other = Unit {0}
