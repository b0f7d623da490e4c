-- The schedule that is generated from a number.
use Rattle.std.specs.Prelude.{ℕ, ◌+◌, ◌/◌, ◌%◌, zero, suc, nat_le, ◌==◌, if◌then◌else◌, List, [], ◌∷◌, ◌++◌, Some}
use Rattle.ens_base.specs.declared.command.Command.{Command}
use Rattle.ens_base.specs.declared.command.Command.TheVariants as does
use Rattle.schedule_text.specs.declared.event.ScheduleEvent.{ScheduleEvent}
use Rattle.schedule_text.specs.declared.event.ScheduleEvent.TheVariants.{Call, Tick, Calm, Stop, Start, Damage}
use Rattle.schedule_text.specs.declared.form.Form.TheVariants.{One}
use Rattle.schedule_text.specs.declared.schedule.Schedule.{Schedule}
use Rattle.schedule_generator.specs.Drawing.{Drawing, ◌>>=◌, gives, draw, draw_bytes}

-- a number as two bytes, the greater one first
abbrev pub two_bytes : ℕ → List ℕ
two_bytes k = k / 256 ∷ k % 256 ∷ []

-- one of 300 keys
abbrev pub draw_key : Drawing (List ℕ)
draw_key = draw 300 >>= λ k. gives (two_bytes k)

-- a value of 0 to 32 bytes
abbrev pub draw_value : Drawing (List ℕ)
draw_value = draw 33 >>= draw_bytes

-- the command of choice c: 0 to 3 get, 4 and 5 over, 6 once, 7 append of one byte, 8 delete, 9 add of 1
abbrev pub draw_choice : ℕ → Drawing Command
draw_choice c =
    if nat_le c 3 then gives does.Get
    else if nat_le c 5 then (draw_value >>= λ value. gives (does.Over value))
    else if c == 6 then (draw_value >>= λ value. gives (does.PutOnce value))
    else if c == 7 then (draw_bytes 1 >>= λ tail. gives (does.Append tail))
    else if c == 8 then gives does.Delete
    else gives (does.Add 1)

-- a command
abbrev pub draw_command : Drawing Command
draw_command = draw 10 >>= draw_choice

-- the lines of a call of this peer
abbrev pub draw_call : ℕ → ℕ → Drawing (List ScheduleEvent)
draw_call peer id = do
  key ← draw_key
  command ← draw_command
  gives (Call peer id key command ∷ Calm ∷ [])

-- the lines that stop a peer, damage a segment of its tree, start it, and let it lead
abbrev pub restart_lines : ℕ → List ℕ → List ScheduleEvent
restart_lines peer key = Stop peer ∷ Damage peer key (Some (0 ∷ [])) ∷ Start peer ∷ Tick peer 6 ∷ Calm ∷ []

-- the restart of one of the five peers, which leads from then on: the peer, and its lines
abbrev pub draw_restart : Drawing (ℕ × List ScheduleEvent)
draw_restart = do
  q ← draw 5
  key ← draw_key
  gives (1 + q, restart_lines (1 + q) key)

-- in front of each 500th call a restart; the peer that leads then, and the lines
abbrev pub draw_leader : ℕ → ℕ → Drawing (ℕ × List ScheduleEvent)
draw_leader peer id = if id % 500 == 0 then draw_restart else gives (peer, [])

-- the call with this id, and what stands in front of it: the peer that leads then, and the lines
abbrev pub draw_lines : ℕ → ℕ → Drawing (ℕ × List ScheduleEvent)
draw_lines peer id = do
  led ← draw_leader peer id
  call ← draw_call led.0 id
  gives (led.0, led.1 ++ call)

-- the lines of so many calls, from this id on
abbrev pub draw_calls : ℕ → ℕ → ℕ → Drawing (List ScheduleEvent)
draw_calls zero peer id = gives []
draw_calls (suc count) peer id = do
  first ← draw_lines peer id
  rest ← draw_calls count first.0 (id + 1)
  gives (first.1 ++ rest)

-- the schedule of so many calls that is generated from a number, in form 1: peer 1 of five leads, and is called
unfoldable pub generate : ℕ → ℕ → Schedule
generate number calls = record { form = One; peers = 5; view = 1 ∷ 2 ∷ 3 ∷ 4 ∷ 5 ∷ []; events = Tick 1 6 ∷ Calm ∷ (draw_calls calls 1 1 number).1 }
