-- What reading the lines of a script gives, one after another, or at which line it stops and why.
use Rattle.std.specs.Prelude.{◌≡◌, ℕ, ◌+◌, ◌==◌, if◌then◌else◌, List, [], ◌∷◌, ◌++◌, Result, Ok, Err}
use Rattle.ens_base.specs.Lists.{same_bytes}
use Rattle.ens_base.specs.Results.{◌>>=◌}
use Rattle.schedule_input.specs.LineReading.{read_text}
use Rattle.lexemes.specs.Words.{words_of}
use Rattle.lexemes.specs.declared.cause.Cause.{Cause}
use Rattle.lexemes.specs.declared.cause.Cause.TheVariants.{Unfinished, Heading, Repeated}
use Rattle.lexemes.specs.declared.cause.WordError.{WordError}
use Rattle.lexemes.specs.declared.cause.WordError.TheVariants as words
use Rattle.schedule_text.specs.Errors.{at_line}
use Rattle.schedule_text.specs.Reading.{bounded, most_lines, opening_of, peers_of}
use Rattle.schedule_text.specs.declared.error.ScheduleError.{ScheduleError}
use Rattle.schedule_text.specs.declared.error.ScheduleError.TheVariants.{Bad, Lines, Memory}
use Rattle.scripts.specs.Events.{root_event_of}
use Rattle.scripts.specs.Progress.{RootProgress, Blank, Titled, Counted, Running, is_repeated, lines_so_far}
use Rattle.scripts.specs.Spelling.{root_line}
use Rattle.scripts.specs.declared.script.RootScript.{RootScript}

-- the lines so far, with one more that is not too long; the second and the third are those of a schedule
abbrev pub with_line : RootProgress → List ℕ → Result RootProgress Cause
with_line Blank text = if same_bytes text root_line then Ok Titled else Err Heading
with_line Titled text = peers_of (words_of text) >>= λ peers. Ok (Counted peers)
with_line (Counted peers) text = opening_of peers (words_of text) >>= λ view. Ok (Running peers view [])
with_line (Running peers view events) text =
    root_event_of peers text >>= λ event. if is_repeated events event then Err Repeated else Ok (Running peers view (events ++ event ∷ []))

-- what reading gives, at the line behind those so far
abbrev pub at_next : {A : Type 0} → RootProgress → Result A Cause → Result A ScheduleError
at_next p read = at_line (lines_so_far p + 1) read

-- the next line
abbrev pub next_line : RootProgress → List ℕ → Result RootProgress ScheduleError
next_line p text = if lines_so_far p == most_lines then Err Lines else at_next p (bounded text (with_line p text))

-- the end of the text, where no line is begun
abbrev pub finished : RootProgress → Result RootScript Cause
finished (Running peers view events) = Ok (record { peers = peers; view = view; events = events })
finished _ = Err Heading

-- the end of the text, behind what follows the last line feed
abbrev pub ended : RootProgress → List ℕ → Result RootScript ScheduleError
ended p [] = at_next p (finished p)
ended p (byte ∷ rest) = if lines_so_far p == most_lines then Err Lines else at_next p (bounded (byte ∷ rest) (Err Unfinished))

-- the script that a text is, or its first bad line
abbrev pub script_of : List ℕ → Result RootScript ScheduleError
script_of text = read_text next_line ended Blank text

-- a line is taken, or the reading stays as it was
abbrev pub TakesLine : RootProgress → List ℕ → RootProgress → Result (Unit {0}) ScheduleError → Type 0
TakesLine old text new (Ok _) = next_line old text ≡ Ok new
TakesLine old text new (Err (Bad line cause)) = (next_line old text ≡ Err (Bad line cause)) × (new ≡ old)
TakesLine old text new (Err Lines) = (next_line old text ≡ Err Lines) × (new ≡ old)
TakesLine old text new (Err Memory) = new ≡ old

-- the same, for a line that is not behind the last
abbrev pub TakesWords : RootProgress → List ℕ → RootProgress → Result (Unit {0}) WordError → Type 0
TakesWords old text new (Ok _) = bounded text (with_line old text) ≡ Ok new
TakesWords old text new (Err (words.Bad cause)) = (bounded text (with_line old text) ≡ Err cause) × (new ≡ old)
TakesWords old text new (Err words.Memory) = new ≡ old
