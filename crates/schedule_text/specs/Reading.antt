-- What reading the lines of a schedule gives, one after another, or at which line it stops and why.
use Rattle.std.specs.Prelude.{◌≡◌, ℕ, ◌+◌, ◌==◌, nat_lt, if◌then◌else◌, List, [], ◌∷◌, ◌++◌, length, codes, Result, Ok, Err}
use Rattle.ens_base.specs.Lists.{same_bytes}
use Rattle.ens_base.specs.Results.{◌>>=◌}
use Rattle.lexemes.specs.Causes.{or_cause}
use Rattle.lexemes.specs.Words.{words_of, parts_of, number_of, view_of}
use Rattle.lexemes.specs.declared.cause.Cause.{Cause}
use Rattle.lexemes.specs.declared.cause.Cause.TheVariants.{TooLong, Unfinished, Heading, Repeated}
use Rattle.lexemes.specs.declared.cause.WordError.{WordError}
use Rattle.lexemes.specs.declared.cause.WordError.TheVariants as words
use Rattle.schedule_text.specs.Errors.{at_line}
use Rattle.schedule_text.specs.Events.{event_of, line_limit}
use Rattle.schedule_text.specs.Progress.{Progress, Blank, Titled, Counted, Running, lines_so_far, is_repeated}
use Rattle.schedule_text.specs.Forms.{form_named}
use Rattle.schedule_text.specs.declared.error.ScheduleError.{ScheduleError}
use Rattle.schedule_text.specs.declared.error.ScheduleError.TheVariants.{Bad, Lines, Memory}
use Rattle.schedule_text.specs.declared.schedule.Schedule.{Schedule}

-- any fault of the first three lines is one cause
abbrev pub heading : {A : Type 0} → Result A Cause → Result A Cause
heading (Ok x) = Ok x
heading (Err cause) = Err Heading

-- the number of peers, from the words of the second line
abbrev pub peers_of : List (List ℕ) → Result ℕ Cause
peers_of (first ∷ n ∷ []) = if same_bytes first (codes "peers") then heading (number_of 1 31 n) else Err Heading
peers_of _ = Err Heading

-- the view that so many peers open with, from the words of the third line
abbrev pub opening_of : ℕ → List (List ℕ) → Result (List ℕ) Cause
opening_of peers [] = Err Heading
opening_of peers (first ∷ members) = if same_bytes first (codes "view") then heading (view_of peers members) else Err Heading

-- the lines so far, with one more that is not too long
abbrev pub with_line : Progress → List ℕ → Result Progress Cause
with_line Blank text = or_cause Heading (form_named text) >>= λ form. Ok (Titled form)
with_line (Titled form) text = peers_of (words_of text) >>= λ peers. Ok (Counted form peers)
with_line (Counted form peers) text = opening_of peers (words_of text) >>= λ view. Ok (Running form peers view [])
with_line (Running form peers view events) text =
    event_of peers text >>= λ event. if is_repeated events event then Err Repeated else Ok (Running form peers view (events ++ event ∷ []))

-- a line of at most 4,400 bytes
abbrev pub bounded : {A : Type 0} → List ℕ → Result A Cause → Result A Cause
bounded text rest = if nat_lt line_limit (length text) then Err TooLong else rest

-- the most lines of a schedule
abbrev pub most_lines : ℕ
most_lines = 200000

-- what reading gives, at the line behind those so far
abbrev pub at_next : {A : Type 0} → Progress → Result A Cause → Result A ScheduleError
at_next p read = at_line (lines_so_far p + 1) read

-- the next line
abbrev pub next_line : Progress → List ℕ → Result Progress ScheduleError
next_line p text = if lines_so_far p == most_lines then Err Lines else at_next p (bounded text (with_line p text))

-- the end of the text, where no line is begun
abbrev pub finished : Progress → Result Schedule Cause
finished (Running form peers view events) = Ok (record { form = form; peers = peers; view = view; events = events })
finished _ = Err Heading

-- the end of the text, behind what follows the last line feed
abbrev pub ended : Progress → List ℕ → Result Schedule ScheduleError
ended p [] = at_next p (finished p)
ended p (byte ∷ rest) = if lines_so_far p == most_lines then Err Lines else at_next p (bounded (byte ∷ rest) (Err Unfinished))

-- what follows, where the line was not bad
abbrev pub and_then : Result Progress ScheduleError → (Progress → Result Schedule ScheduleError) → Result Schedule ScheduleError
and_then (Ok p) rest = rest p
and_then (Err e) rest = Err e

-- the parts of a text between its line feeds: all but the last are lines
abbrev pub read_parts : Progress → List (List ℕ) → Result Schedule ScheduleError
read_parts p [] = ended p []
read_parts p (rest ∷ []) = ended p rest
read_parts p (text ∷ next ∷ more) = and_then (next_line p text) (λ q. read_parts q (next ∷ more))

-- the schedule that a text is, or its first bad line
abbrev pub schedule_of : List ℕ → Result Schedule ScheduleError
schedule_of text = read_parts Blank (parts_of 10 text)

-- a line is taken, or the reading stays as it was
abbrev pub TakesLine : Progress → List ℕ → Progress → Result (Unit {0}) ScheduleError → Type 0
TakesLine old text new (Ok _) = next_line old text ≡ Ok new
TakesLine old text new (Err (Bad line cause)) = (next_line old text ≡ Err (Bad line cause)) × (new ≡ old)
TakesLine old text new (Err Lines) = (next_line old text ≡ Err Lines) × (new ≡ old)
TakesLine old text new (Err Memory) = new ≡ old

-- the same, for a line that is not behind the last
abbrev pub TakesWords : Progress → List ℕ → Progress → Result (Unit {0}) WordError → Type 0
TakesWords old text new (Ok _) = bounded text (with_line old text) ≡ Ok new
TakesWords old text new (Err (words.Bad cause)) = (bounded text (with_line old text) ≡ Err cause) × (new ≡ old)
TakesWords old text new (Err words.Memory) = new ≡ old
