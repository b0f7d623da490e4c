-- The turns of a line, and in which of them an error stopped a line.
use Rattle.std.specs.Prelude.{ℕ, zero, suc, ◌<◌, Bool, List}
use Rattle.network.specs.Mail.{is_among, oldest, most_messages}
use Rattle.peer_state.specs.declared.event.Event.TheVariants as events
use Rattle.schedule_text.specs.declared.event.ScheduleEvent.{ScheduleEvent}
use Rattle.schedule_text.specs.declared.event.ScheduleEvent.TheVariants.{Tick, Calm, CalmAmong}
use Rattle.world_spec.specs.Held.{Account, HasHashed}
use Rattle.world_spec.specs.Lines.{effect, everyone, set_of}
use Rattle.world_spec.specs.Messages.{IsWithinMessages, IsPastMessages}
use Rattle.world_spec.specs.Runs.{Run, unhashed, stepped, delivered_if}
use Rattle.world_model.specs.Refusals.{IsCutOff}
use Rattle.world_model.specs.declared.error.WorldError.{WorldError}
use Rattle.world_model.specs.declared.error.WorldError.TheVariants.{MessageLimit, Memory}

-- the world after one tick of a peer
abbrev pub after_tick : ℕ → Run → Run
after_tick peer w = stepped peer events.Tick w

-- the world after the oldest message waiting among these peers is delivered, if one waits
abbrev pub after_oldest : List Bool → Run → Run
after_oldest peers w = delivered_if (oldest (is_among peers) w.mail) w

-- The world after one turn of a line: a tick, one delivery of a calm, or all that another line does. In a turn
-- the strings are hashed before the messages are sent.
abbrev pub turn : ScheduleEvent → Run → Run
turn (Tick peer ticks) w = after_tick peer w
turn Calm w = after_oldest everyone w
turn (CalmAmong members) w = after_oldest (set_of members) w
turn other w = effect other w

-- how many turns a line has; the last ones of a calm do nothing if no message waits
abbrev pub turns_of : ScheduleEvent → ℕ
turns_of (Tick peer ticks) = ticks
turns_of Calm = most_messages
turns_of (CalmAmong members) = most_messages
turns_of other = 1

-- the world after so many turns
unfoldable pub after_turns : ℕ → (Run → Run) → Run → Run
after_turns zero one w = w
after_turns (suc n) one w = one (after_turns n one w)

-- This error stopped a turn that was to lead to the run `due`. At the limit on messages `due` is past it, and the
-- hasher took all strings of the turn; otherwise it rejected one of them, or memory ran out.
abbrev pub StopsTurn : Account → Run → Account → WorldError → Type 0
StopsTurn first due now MessageLimit = IsPastMessages due × HasHashed due.hashed first now
StopsTurn first due now e = IsCutOff due.hashed first now e

-- An error stopped one of so many turns, after `done` of them. The run stays within the limit on messages until
-- then, and the hasher took its strings.
pub record StopsInTurn (turns : ℕ) (one : Run → Run) (w : Run) (first now : Account) (e : WorldError) : Type 0 where
  pub done : ℕ
  pub few : done < turns
  pub mid : Account
  pub within : IsWithinMessages (after_turns done one w)
  pub has : HasHashed (after_turns done one w).hashed first mid
  pub stops : StopsTurn mid (one (unhashed (after_turns done one w))) now e

-- why so many turns were not all taken: memory ran out, or another error stopped one of them
abbrev pub StopsAmong : ℕ → (Run → Run) → Run → Account → Account → WorldError → Type 0
StopsAmong turns one w first now Memory = Unit {0}
StopsAmong turns one w first now e = StopsInTurn turns one w first now e
