-- What the lines of a heading say.
use Rattle.std.proofs.Common.{◌≡◌, ℕ, Bool, true, false, nat_lt, if◌then◌else◌, List, [], length, Result, Ok, Err, ap}
use Rattle.ens_base.specs.Results.{◌>>=◌}
use Rattle.lexemes.specs.Words.{words_of}
use Rattle.lexemes.specs.declared.cause.Cause.{Cause}
use Rattle.lexemes.specs.declared.cause.Cause.TheVariants.{TooLong}
use Rattle.lexemes.specs.declared.cause.WordError.{WordError}
use Rattle.lexemes.specs.declared.cause.WordError.TheVariants as refusal
use Rattle.lexemes.proofs.Results.{ok_same}
use Rattle.schedule_text.specs.Events.{line_limit}
use Rattle.schedule_text.specs.Progress.{Progress}
use Rattle.schedule_text.specs.Progress as heading
use Rattle.schedule_text.specs.Errors.{error_at}
use Rattle.schedule_text.specs.Reading.{bounded, opening_of, peers_of, with_line as with_heading, TakesLine, TakesWords}
use Rattle.schedule_text.specs.declared.error.ScheduleError.{ScheduleError}
use Rattle.schedule_text.specs.declared.error.ScheduleError.TheVariants.{Bad, Lines, Memory}
use Rattle.scripts.specs.Progress.{Counted, Running, HasHeading, IsCounted, IsHeading, IsTitled, IsWhole, begun, progress_of}
use Rattle.scripts.specs.declared.event.RootEvent.{RootEvent}
use Rattle.scripts.specs.declared.stage.Stage.{Stage}
use Rattle.scripts.specs.declared.stage.Stage.TheVariants as at
use Rattle.scripts.specs.RootReading.{with_line, TakesWords as TakesScriptWords}
use Rattle.scripts.specs.Refusals.{line_in}
use Rattle.scripts.proofs.Refusals.{refused_so}

-- ---- a line of the heading of a schedule is one of a script

pub heading_refused : (lines : Progress) (text : List ℕ) (cause : Cause) → IsHeading lines → bounded text (with_heading lines text) ≡ Err cause → bounded text (with_line (begun lines) text) ≡ Err cause
heading_refused heading.Blank text cause h refused = absurd h
heading_refused (heading.Titled form) text cause h refused = by (nat_lt line_limit (length text)) (peers_of (words_of text)) refused
  where
    by : (b : Bool) (r : Result ℕ Cause) → (if b then Err TooLong else r >>= λ peers. Ok (heading.Counted form peers)) ≡ Err cause → (if b then Err TooLong else r >>= λ peers. Ok (Counted peers)) ≡ Err cause
    by true r e = let same : TooLong ≡ cause = cc e in ap Err same
    by false (Ok peers) e = cc e
    by false (Err other) e = let same : other ≡ cause = cc e in ap Err same
heading_refused (heading.Counted form peers) text cause h refused = by (nat_lt line_limit (length text)) (opening_of peers (words_of text)) refused
  where
    by : (b : Bool) (r : Result (List ℕ) Cause) → (if b then Err TooLong else r >>= λ view. Ok (heading.Running form peers view [])) ≡ Err cause
        → (if b then Err TooLong else r >>= λ view. Ok (Running peers view [])) ≡ Err cause
    by true r e = let same : TooLong ≡ cause = cc e in ap Err same
    by false (Ok view) e = cc e
    by false (Err other) e = let same : other ≡ cause = cc e in ap Err same
heading_refused (heading.Running form peers view events) text cause h refused = absurd h

pub counted_next : (lines next : Progress) (text : List ℕ) → IsCounted lines → bounded text (with_heading lines text) ≡ Ok next → IsWhole next
counted_next heading.Blank next text h taken = absurd h
counted_next (heading.Titled form) next text h taken = absurd h
counted_next (heading.Counted form peers) next text h taken = by (nat_lt line_limit (length text)) (opening_of peers (words_of text)) taken
  where
    by : (b : Bool) (r : Result (List ℕ) Cause) → (if b then Err TooLong else r >>= λ view. Ok (heading.Running form peers view [])) ≡ Ok next → IsWhole next
    by true r e = cc e
    by false (Ok view) e = rw (← (ok_same e)) tt
    by false (Err cause) e = cc e
counted_next (heading.Running form peers view events) next text h taken = absurd h

-- the error of a line of the heading says of the line alone why it was refused
pub heading_error : (lines next : Progress) (text : List ℕ) (e : ScheduleError) (w : WordError) → IsHeading lines → TakesLine lines text next (Err e) → e ≡ error_at (line_in e) w → TakesWords lines text next (Err w)
heading_error lines next text (Bad line number) refusal.Memory h refused is = refused.1
heading_error lines next text Lines refusal.Memory h refused is = refused.1
heading_error lines next text Memory refusal.Memory h refused is = refused
heading_error lines next text Lines (refusal.Bad cause) h refused is = absurd (cc is)
heading_error lines next text Memory (refusal.Bad cause) h refused is = absurd (cc is)
heading_error heading.Blank next text (Bad line number) (refusal.Bad cause) h refused is = absurd h
heading_error (heading.Titled form) next text (Bad line number) (refusal.Bad cause) h refused is =
    (refused_so 2 (bounded text (with_heading (heading.Titled form) text)) (Bad line number) (refusal.Bad cause) refused.0 is, refused.1)
heading_error (heading.Counted form peers) next text (Bad line number) (refusal.Bad cause) h refused is =
    (refused_so 3 (bounded text (with_heading (heading.Counted form peers) text)) (Bad line number) (refusal.Bad cause) refused.0 is, refused.1)
heading_error (heading.Running form peers view events) next text (Bad line number) (refusal.Bad cause) h refused is = absurd h

titled_begins : (lines : Progress) → IsTitled lines → IsHeading lines
titled_begins heading.Blank h = h
titled_begins (heading.Titled form) h = h
titled_begins (heading.Counted form peers) h = absurd h
titled_begins (heading.Running form peers view events) h = h

-- a line that is refused leaves the heading of a script as it was
begun_refused : (lines next : Progress) (text : List ℕ) (w : WordError) → IsHeading lines → TakesWords lines text next (Err w) → TakesScriptWords (begun lines) text (begun next) (Err w)
begun_refused lines next text (refusal.Bad cause) h refused = (heading_refused lines text cause h refused.0, ap begun refused.1)
begun_refused lines next text refusal.Memory h refused = ap begun refused

pub titled_refused : (stage : Stage) (lines next : Progress) (events : List RootEvent) (text : List ℕ) (w : WordError) → stage ≡ at.Titled → HasHeading stage lines events → TakesWords lines text next (Err w)
    → TakesScriptWords (progress_of stage lines events) text (progress_of stage next events) (Err w)
titled_refused at.Blank lines next events text w is begins refused = absurd (cc is)
titled_refused at.Titled lines next events text w is begins refused = begun_refused lines next text w (titled_begins lines begins.0) refused
titled_refused at.Counted lines next events text w is begins refused = absurd (cc is)
titled_refused (at.Running peers view) lines next events text w is begins refused = absurd (cc is)
