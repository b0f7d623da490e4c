-- What the text of a script is, and which line of a text is bad and why.
use Rattle.std.specs.Prelude.{ℕ, ◌+◌, ◌≤◌, ◌==◌, ◌||◌, Bool, false, nat_lt, if◌then◌else◌, List, [], ◌∷◌, ◌++◌, length, codes, Result, Ok, Err}
use Rattle.std.specs.List.{list_any}
use Rattle.ens_base.specs.Lists.{AreDistinct, same_bytes}
use Rattle.ens_base.specs.Results.{◌>>=◌}
use Rattle.schedule_input.specs.LineReading.{read_text}
use Rattle.lexemes.specs.Words.{number_of, words_of}
use Rattle.lexemes.specs.declared.cause.Cause.{Cause}
use Rattle.lexemes.specs.declared.cause.Cause.TheVariants.{Repeated, TooLong, Unfinished, Unknown}
use Rattle.schedule_text.specs.Arguments.{one_of}
use Rattle.schedule_text.specs.Errors.{at_line}
use Rattle.schedule_text.specs.Events.{event_of, line_limit}
use Rattle.schedule_text.specs.Reading.{bounded, most_lines}
use Rattle.schedule_text.specs.Spelling.{MayStand, call_ids}
use Rattle.schedule_text.specs.declared.error.ScheduleError.{ScheduleError}
use Rattle.schedule_text.specs.declared.error.ScheduleError.TheVariants.{Lines}
use Rattle.schedule_text.specs.declared.event.ScheduleEvent.{ScheduleEvent}
use Rattle.schedule_text.specs.declared.event.ScheduleEvent.TheVariants.{Call, Tick, Change, Stop, Start}
use Rattle.scripts.specs.declared.line.ScriptLine.{ScriptLine}
use Rattle.scripts.specs.declared.line.ScriptLine.TheVariants.{Event, Turn}

-- whether an event of a script begins with this word
abbrev pub is_scripted : List ℕ → Bool
is_scripted word = same_bytes word (codes "call") || same_bytes word (codes "tick") || same_bytes word (codes "change") || same_bytes word (codes "stop") || same_bytes word (codes "start")

-- so many looks, from the words behind `turn`
abbrev pub turn_of : List (List ℕ) → Result ScriptLine Cause
turn_of words = one_of words >>= λ word. number_of 1 100000 word >>= λ count. Ok (Turn count)

-- an event, from the whole line
abbrev pub scripted_of : ℕ → List ℕ → Result ScriptLine Cause
scripted_of peers text = event_of peers text >>= λ event. Ok (Event event)

-- a line, from its text and its words
abbrev pub words_line : ℕ → List ℕ → List (List ℕ) → Result ScriptLine Cause
words_line peers text [] = Err Unknown
words_line peers text (first ∷ words) =
    if same_bytes first (codes "turn") then turn_of words
    else if is_scripted first then scripted_of peers text else Err Unknown

-- a line, read where there are so many peers
abbrev pub line_of : ℕ → List ℕ → Result ScriptLine Cause
line_of peers text = if nat_lt line_limit (length text) then Err TooLong else words_line peers text (words_of text)

-- whether a line is the call with this id
abbrev pub calls_id : ℕ → ScriptLine → Bool
calls_id id (Event (Call peer i key command)) = i == id
calls_id id _ = false

-- whether a line is a call whose id came before
abbrev pub is_repeated : List ScriptLine → ScriptLine → Bool
is_repeated lines (Event (Call peer id key command)) = list_any (calls_id id) lines
is_repeated lines _ = false

-- the lines so far, and one more
abbrev pub with_line : List ScriptLine → ScriptLine → Result (List ScriptLine) Cause
with_line lines line = if is_repeated lines line then Err Repeated else Ok (lines ++ line ∷ [])

-- the next line
abbrev pub next_line : ℕ → List ScriptLine → List ℕ → Result (List ScriptLine) ScheduleError
next_line peers lines text = if length lines == most_lines then Err Lines else at_line (length lines + 1) (line_of peers text >>= with_line lines)

-- the end of the text, and what follows the last line feed
abbrev pub ended : List ScriptLine → List ℕ → Result (List ScriptLine) ScheduleError
ended lines [] = Ok lines
ended lines (byte ∷ rest) = if length lines == most_lines then Err Lines else at_line (length lines + 1) (bounded (byte ∷ rest) (Err Unfinished))

-- the script that a text is for so many peers, or its first bad line and the cause
abbrev pub script_of : ℕ → List ℕ → Result (List ScriptLine) ScheduleError
script_of peers text = read_text (next_line peers) ended [] text

-- an event of a script
abbrev pub IsScripted : ScheduleEvent → Type 0
IsScripted (Call peer id key command) = Unit {0}
IsScripted (Tick peer ticks) = Unit {0}
IsScripted (Change peer view) = Unit {0}
IsScripted (Stop peer) = Unit {0}
IsScripted (Start peer) = Unit {0}
IsScripted _ = ⊥

-- a line that may stand in a script for so many peers
abbrev pub MayBeLine : ℕ → ScriptLine → Type 0
MayBeLine peers (Event event) = IsScripted event × MayStand peers event
MayBeLine peers (Turn count) = (1 ≤ count) × (count ≤ 100000)

-- each line may stand in a script for so many peers
abbrev pub AllMayBeLines : ℕ → List ScriptLine → Type 0
AllMayBeLines peers [] = Unit {0}
AllMayBeLines peers (line ∷ more) = MayBeLine peers line × AllMayBeLines peers more

-- the events of a script, in the order of its lines
abbrev pub script_events : List ScriptLine → List ScheduleEvent
script_events [] = []
script_events (Event event ∷ more) = event ∷ script_events more
script_events (Turn count ∷ more) = script_events more

-- a script for so many peers: lines that may stand, whose calls have distinct ids
pub record IsScript (peers : ℕ) (lines : List ScriptLine) : Type 0 where
  pub may : AllMayBeLines peers lines
  pub distinct : AreDistinct (call_ids (script_events lines))
  pub few : length lines ≤ 200000
