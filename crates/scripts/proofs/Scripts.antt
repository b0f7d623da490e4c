-- The lines of a script are numbered and counted, and what is read to the end is a script.
use Rattle.std.proofs.Common.{◌≡◌, ℕ, ◌+◌, Bool, true, false, if◌then◌else◌, List, [], ◌∷◌, ◌++◌, length, Result, Ok, Err, refl, sym, ap, ◌∙◌, arith, length-append}
use Rattle.ens_base.specs.Lists.{same_bytes}
use Rattle.schedule_input.specs.Counting.{IsReached}
use Rattle.lexemes.specs.Words.{words_of}
use Rattle.lexemes.specs.declared.cause.Cause.{Cause}
use Rattle.lexemes.specs.declared.cause.Cause.TheVariants.{Repeated, Heading}
use Rattle.lexemes.proofs.Results.{bind_ok, ok_same}
use Rattle.schedule_text.specs.Errors.{Stops}
use Rattle.schedule_text.specs.Reading.{opening_of, peers_of}
use Rattle.schedule_text.specs.declared.error.ScheduleError.{ScheduleError}
use Rattle.schedule_text.specs.declared.error.ScheduleError.TheVariants.{Bad, Lines, Memory}
use Rattle.scripts.proofs.Numbered.{IsNumbered, end_after_feed, line_taken}
use Rattle.scripts.proofs.ScriptsRead.{script_of-ok}
use Rattle.scripts.specs.Events.{root_event_of}
use Rattle.scripts.specs.Progress.{RootProgress, Blank, Titled, Counted, Running, is_repeated, lines_so_far}
use Rattle.scripts.specs.RootReading.{TakesLine, ended, next_line, with_line}
use Rattle.scripts.specs.Spelling.{IsScript, root_line}
use Rattle.scripts.specs.declared.event.RootEvent.{RootEvent}
use Rattle.scripts.specs.declared.script.RootScript.{RootScript}

-- a line that is not taken stops the reading
pub takes_stops : (p q : RootProgress) (v : List ℕ) (e : ScheduleError) → TakesLine p v q (Err e) → Stops (next_line p v) e
takes_stops p q v (Bad line cause) h = h.0
takes_stops p q v Lines h = h.0
takes_stops p q v Memory h = tt

pub script_numbered : IsNumbered lines_so_far with_line next_line ended
script_numbered = record { line = λ p t. refl; rest = λ p byte rest. refl }

-- what ends as a script is a script
pub reached_script : (p : RootProgress) (rest : List ℕ) (s : RootScript) → ended p rest ≡ Ok s → IsReached next_line ended Blank p → IsScript s
reached_script p rest s ok old = (script_of-ok (old.0 ++ []) s (old.1 [] ∙ end_after_feed script_numbered p rest s ok)).0

-- a line that is taken adds one to the count
one_more : (p q : RootProgress) (t : List ℕ) → with_line p t ≡ Ok q → lines_so_far q ≡ lines_so_far p + 1
one_more Blank q t h = titled (same_bytes t root_line) h
  where
    titled : (b : Bool) → (let r : Result RootProgress Cause = if b then Ok Titled else Err Heading in r ≡ Ok q) → lines_so_far q ≡ 1
    titled true e = sym (ap lines_so_far (ok_same e))
    titled false e = absurd cc
one_more Titled q t h = let peers = bind_ok (peers_of (words_of t)) _ q h in sym (ap lines_so_far (ok_same peers.2))
one_more (Counted peers) q t h = let view = bind_ok (opening_of peers (words_of t)) _ q h in sym (ap lines_so_far (ok_same view.2))
one_more (Running peers view events) q t h = let event = bind_ok (root_event_of peers t) _ q h in logged event.0 (is_repeated events event.0) event.2
  where
    logged : (event : RootEvent) (b : Bool) → (let r : Result RootProgress Cause = if b then Err Repeated else Ok (Running peers view (events ++ event ∷ [])) in r ≡ Ok q) → lines_so_far q ≡ 3 + length events + 1
    logged event true e = absurd cc
    logged event false e = sym (ap lines_so_far (ok_same e)) ∙ omega (arith, length-append events (event ∷ []))

pub line_counts : (p q : RootProgress) (t : List ℕ) → next_line p t ≡ Ok q → lines_so_far q ≡ lines_so_far p + 1
line_counts p q t ok = one_more p q t (line_taken script_numbered p q t ok)
