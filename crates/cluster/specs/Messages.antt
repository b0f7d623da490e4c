-- Which events are recorded, and what they make of the messages that wait.
use Rattle.std.specs.Prelude.{◌≤◌, ◌-◌, ℕ, List, [], ◌∷◌, length}
use Rattle.scripts.specs.Scripts.{IsScripted}
use Rattle.network.specs.Mail.{Mail, settled}
use Rattle.schedule_text.specs.Spelling.{MayStand}
use Rattle.schedule_text.specs.declared.event.ScheduleEvent.{ScheduleEvent}
use Rattle.schedule_text.specs.declared.event.ScheduleEvent.TheVariants.{Deliver}

-- an event that is recorded: one of a script, or a delivery
abbrev pub IsRecorded : ScheduleEvent → Type 0
IsRecorded (Deliver message) = Unit {0}
IsRecorded event = IsScripted event

-- each event is recorded, and may stand in a schedule of so many peers
abbrev pub AllRecorded : ℕ → List ScheduleEvent → Type 0
AllRecorded peers [] = Unit {0}
AllRecorded peers (event ∷ more) = (IsRecorded event × MayStand peers event) × AllRecorded peers more

-- an event that may be recorded next, when these messages were sent
abbrev pub MayBeRecorded : ℕ → Mail → ScheduleEvent → Type 0
MayBeRecorded peers m (Deliver message) = (1 ≤ message) × (message ≤ length m.sent)
MayBeRecorded peers m event = IsScripted event × MayStand peers event

-- the messages before those of the event itself are sent: one that it delivers no longer waits
abbrev pub mail_before : ScheduleEvent → Mail → Mail
mail_before (Deliver message) m = settled m (message - 1)
mail_before event m = m
