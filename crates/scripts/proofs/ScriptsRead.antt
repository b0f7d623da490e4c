-- What is read as a script is one, and its text is what was read.
use Rattle.std.proofs.Common.{◌≡◌, ℕ, ◌+◌, ◌<◌, ◌≤◌, ◌==◌, Bool, true, false, nat_lt, if◌then◌else◌, List, [], ◌∷◌, ◌++◌, length, map, Result, Ok, Err, refl, sym, ap, ◌∙◌, arith, append-nil}
use Rattle.ens_base.proofs.Lists.{bytes_same}
use Rattle.std.proofs.lemmas.List.{length-append}
use Rattle.std.proofs.lemmas.List.Splits.{join_with_byte-slice_split}
use Rattle.std.specs.List.{join_with_byte}
use Rattle.ens_base.specs.Lists.{same_bytes}
use Rattle.ens_base.specs.Results.{◌>>=◌}
use Rattle.schedule_input.specs.LineReading.{and_then, read_parts}
use Rattle.lexemes.specs.Words.{parts_of, words_of}
use Rattle.lexemes.specs.declared.cause.Cause.TheVariants.{Unfinished, Repeated}
use Rattle.lexemes.proofs.Results.{bind_ok, ok_same}
use Rattle.schedule_text.specs.Events.{line_limit}
use Rattle.schedule_text.specs.Reading.{bounded, most_lines, opening_of, peers_of}
use Rattle.schedule_text.specs.Spelling.{peers_line, view_line}
use Rattle.schedule_text.specs.Writing.{feeds}
use Rattle.schedule_text.specs.declared.error.ScheduleError.{ScheduleError}
use Rattle.schedule_text.proofs.SchedulesRead.{if_heading, joined, peers_of-ok, opening_of-ok, unless_lines, not_last, bounded_err, feeds-end, at_line_ok}
use Rattle.schedule_text.proofs.EventsRead.{short_enough}
use Rattle.scripts.specs.Events.{root_event_of}
use Rattle.scripts.specs.Progress.{RootProgress, Blank, Titled, Counted, Running, is_repeated, lines_so_far}
use Rattle.scripts.specs.RootReading.{at_next, ended, finished, next_line, script_of, with_line}
use Rattle.scripts.specs.Spelling.{AllMayStand, IsScript, MayStand, root_event_line, root_line, script_lines, script_text}
use Rattle.scripts.specs.declared.event.RootEvent.{RootEvent}
use Rattle.scripts.specs.declared.script.RootScript.{RootScript}
use Rattle.scripts.proofs.EventsRead.{root_event_of-ok}
use Rattle.scripts.proofs.Ids.{distinct_with}

-- the lines that were read
abbrev lines_read : RootProgress → List (List ℕ)
lines_read Blank = []
lines_read Titled = root_line ∷ []
lines_read (Counted peers) = root_line ∷ peers_line peers ∷ []
lines_read (Running peers view events) = root_line ∷ peers_line peers ∷ view_line view ∷ map root_event_line events

-- a script as far as it goes
abbrev IsSound : RootProgress → Type 0
IsSound Blank = Unit {0}
IsSound Titled = Unit {0}
IsSound (Counted peers) = (1 ≤ peers) × (peers ≤ 31)
IsSound (Running peers view events) = IsScript (record { peers = peers; view = view; events = events })

-- ---- a line

stands_end : (peers : ℕ) (events : List RootEvent) (event : RootEvent) → AllMayStand peers events → MayStand peers event → AllMayStand peers (events ++ event ∷ [])
stands_end peers [] event h k = (k, tt)
stands_end peers (e ∷ more) event h k = (h.0, stands_end peers more event h.1 k)

map-end : (events : List RootEvent) (event : RootEvent) → map root_event_line (events ++ event ∷ []) ≡ map root_event_line events ++ root_event_line event ∷ []
map-end [] event = refl
map-end (e ∷ more) event = ap (λ (ls : List (List ℕ)). root_event_line e ∷ ls) (map-end more event)

if_repeated : (b : Bool) (x y : RootProgress) → (if b then Err Repeated else Ok x) ≡ Ok y → (b ≡ false) × (x ≡ y)
if_repeated true x y h = cc h
if_repeated false x y h = (refl, ok_same h)

with_line-ok : (p q : RootProgress) (text : List ℕ) → IsSound p → lines_so_far p < 200000 → with_line p text ≡ Ok q
    → IsSound q × (lines_read q ≡ lines_read p ++ text ∷ [])
with_line-ok Blank q text sound few h =
    let parts = if_heading (same_bytes text root_line) (Ok Titled) q h in
    let word = bytes_same text root_line parts.0 in
    rw (← (ok_same parts.1)) (tt, λ i. sym word i ∷ [])
with_line-ok Titled q text sound few h =
    let n = bind_ok (peers_of (words_of text)) _ q h in
    let read = peers_of-ok (words_of text) n.0 n.1 in
    let whole = joined text _ read.0 in
    rw (← (ok_same n.2)) ((read.1, read.2), λ i. root_line ∷ sym whole i ∷ [])
with_line-ok (Counted peers) q text sound few h =
    let v = bind_ok (opening_of peers (words_of text)) _ q h in
    let read = opening_of-ok peers (words_of text) v.0 sound.1 v.1 in
    let whole = joined text _ read.0 in
    let good : IsScript (record { peers = peers; view = v.0; events = [] }) = record { peers = sound; view = read.1; events = tt; distinct = tt; lines = omega arith } in
    rw (← (ok_same v.2)) (good, λ i. root_line ∷ peers_line peers ∷ sym whole i ∷ [])
with_line-ok (Running peers view events) q text sound few h =
    let e = bind_ok (root_event_of peers text) _ q h in
    let once = if_repeated (is_repeated events e.0) _ q e.2 in
    let read = root_event_of-ok peers text e.0 sound.peers.1 e.1 in
    let good : IsScript (record { peers = peers; view = view; events = events ++ e.0 ∷ [] }) = record {
      peers = sound.peers;
      view = sound.view;
      events = stands_end peers events e.0 sound.events read.1;
      distinct = distinct_with events e.0 sound.distinct once.0;
      lines = omega (arith, length-append events (e.0 ∷ []));
    } in
    rw (← once.1) (good, ap (λ (ls : List (List ℕ)). root_line ∷ peers_line peers ∷ view_line view ∷ ls) (map-end events e.0 ∙ (λ i. map root_event_line events ++ sym read.0 i ∷ [])))

sound_few : (p : RootProgress) → IsSound p → lines_so_far p ≤ 200000
sound_few Blank h = omega arith
sound_few Titled h = omega arith
sound_few (Counted peers) h = omega arith
sound_few (Running peers view events) h = let few : length events + 3 ≤ 200000 = h.lines in omega arith

next_line-ok : (p q : RootProgress) (text : List ℕ) → IsSound p → next_line p text ≡ Ok q → IsSound q × (lines_read q ≡ lines_read p ++ text ∷ [])
next_line-ok p q text sound h =
    let parts = unless_lines (lines_so_far p == most_lines) (at_next p (bounded text (with_line p text))) q h in
    let within = at_line_ok (lines_so_far p + 1) (bounded text (with_line p text)) q parts.1 in
    with_line-ok p q text sound (not_last (lines_so_far p) parts.0 (sound_few p sound)) (short_enough (nat_lt line_limit (length text)) (with_line p text) q within)

-- ---- the end

finished-ok : (p : RootProgress) (s : RootScript) → IsSound p → finished p ≡ Ok s → IsScript s × (lines_read p ≡ script_lines s)
finished-ok Blank s sound h = cc h
finished-ok Titled s sound h = cc h
finished-ok (Counted peers) s sound h = cc h
finished-ok (Running peers view events) s sound h = rw (← (ok_same h)) (sound, refl)

ended-ok : (p : RootProgress) (rest : List ℕ) (s : RootScript) → IsSound p → ended p rest ≡ Ok s → IsScript s × (feeds (lines_read p) ++ rest ≡ script_text s)
ended-ok p [] s sound h =
    let read = finished-ok p s sound (at_line_ok (lines_so_far p + 1) (finished p) s h) in
    (read.0, append-nil (feeds (lines_read p)) ∙ ap feeds read.1)
ended-ok p (b ∷ rest) s sound h =
    let parts = unless_lines (lines_so_far p == most_lines) (at_next p (bounded (b ∷ rest) (Err Unfinished))) s h in
    absurd (bounded_err (b ∷ rest) Unfinished s (at_line_ok (lines_so_far p + 1) (bounded (b ∷ rest) (Err Unfinished)) s parts.1))

and_then_ok : (r : Result RootProgress ScheduleError) (f : RootProgress → Result RootScript ScheduleError) (s : RootScript) → and_then next_line ended r f ≡ Ok s
    → (q : RootProgress) × (r ≡ Ok q) × (f q ≡ Ok s)
and_then_ok (Ok q) f s h = (q, refl, h)
and_then_ok (Err e) f s h = cc h

parts_read : (p : RootProgress) (parts : List (List ℕ)) (s : RootScript) → IsSound p → read_parts next_line ended p parts ≡ Ok s
    → IsScript s × (feeds (lines_read p) ++ join_with_byte 10 parts ≡ script_text s)
parts_read p [] s sound h = ended-ok p [] s sound h
parts_read p (rest ∷ []) s sound h = ended-ok p rest s sound h
parts_read p (text ∷ next ∷ more) s sound h =
    let q = and_then_ok (next_line p text) (λ q. read_parts next_line ended q (next ∷ more)) s h in
    let line = next_line-ok p q.0 text sound q.1 in
    let later = parts_read q.0 (next ∷ more) s line.0 q.2 in (
      later.0,
      sym (feeds-end (lines_read p) text (join_with_byte 10 (next ∷ more)))
          ∙ sym (ap (λ (ls : List (List ℕ)). feeds ls ++ join_with_byte 10 (next ∷ more)) line.1) ∙ later.1,
    )

-- a text that is read as a script is the text of it
pub script_of-ok : (text : List ℕ) (s : RootScript) → script_of text ≡ Ok s → IsScript s × (script_text s ≡ text)
script_of-ok text s h =
    let read = parts_read Blank (parts_of 10 text) s tt h in
    (read.0, sym read.1 ∙ join_with_byte-slice_split 10 text)
