-- What is read as a schedule is one, and its text is what was read.
use Rattle.std.proofs.Common.{◌≡◌, ℕ, ◌+◌, ◌<◌, ◌≤◌, ◌==◌, Bool, true, false, nat_lt, if◌then◌else◌, List, [], ◌∷◌, ◌++◌, length, codes, map, Result, Ok, Err, refl, sym, ap, ◌∙◌, arith, lit<, append_assoc, append-nil}
use Rattle.ens_base.proofs.Lists.{bytes_same}
use Rattle.std.proofs.lemmas.Bool.Decides.{nat_tests}
use Rattle.std.proofs.lemmas.List.{length-append}
use Rattle.std.proofs.lemmas.List.Concat.{flat_map-append}
use Rattle.std.proofs.lemmas.List.Splits.{join_with_byte-slice_split}
use Rattle.std.specs.Fmt.{decimal}
use Rattle.std.specs.List.{join_with_byte}
use Rattle.ens_base.specs.Lists.{same_bytes}
use Rattle.ens_base.specs.View.{IsView}
use Rattle.ens_base.specs.Results.{◌>>=◌}
use Rattle.lexemes.specs.Causes.{or_cause}
use Rattle.lexemes.specs.Spelling.{AreMembers, member_words}
use Rattle.lexemes.specs.Words.{number_of, parts_of, view_of, words_of}
use Rattle.lexemes.specs.declared.cause.Cause.{Cause}
use Rattle.lexemes.specs.declared.cause.Cause.TheVariants.{TooLong, Unfinished, Heading, Repeated}
use Rattle.lexemes.proofs.Ascending.{view_of-ok}
use Rattle.lexemes.proofs.Dotted.{number_of-ok}
use Rattle.lexemes.proofs.Results.{bind_ok, ok_same, or_cause_ok}
use Rattle.schedule_text.specs.Errors.{at_line}
use Rattle.schedule_text.specs.Events.{event_of, line_limit}
use Rattle.schedule_text.specs.Forms.{ensemble_line, form_named, forms}
use Rattle.schedule_text.specs.Progress.{Progress, Blank, Titled, Counted, Running, lines_so_far, is_repeated}
use Rattle.schedule_text.specs.Reading.{and_then, at_next, bounded, ended, finished, heading, most_lines, next_line, opening_of, peers_of, read_parts, schedule_of, with_line}
use Rattle.schedule_text.specs.Spelling.{AllMayStand, IsSchedule, MayStand, event_line, peers_line, schedule_lines, schedule_text, view_line}
use Rattle.schedule_text.specs.Writing.{feed, feeds}
use Rattle.schedule_text.specs.declared.error.ScheduleError.{ScheduleError}
use Rattle.schedule_text.specs.declared.error.ScheduleError.TheVariants.{Lines}
use Rattle.schedule_text.specs.declared.event.ScheduleEvent.{ScheduleEvent}
use Rattle.schedule_text.specs.declared.schedule.Schedule.{Schedule}
use Rattle.schedule_text.proofs.EventsRead.{event_of-ok, short_enough}
use Rattle.schedule_text.proofs.Ids.{distinct_with}
use Rattle.schedule_text.proofs.Lookups.{find_word}

-- the lines that were read
abbrev lines_read : Progress → List (List ℕ)
lines_read Blank = []
lines_read (Titled form) = ensemble_line form ∷ []
lines_read (Counted form peers) = ensemble_line form ∷ peers_line peers ∷ []
lines_read (Running form peers view events) = ensemble_line form ∷ peers_line peers ∷ view_line view ∷ map event_line events

-- a schedule as far as it goes
abbrev IsSound : Progress → Type 0
IsSound Blank = Unit {0}
IsSound (Titled form) = Unit {0}
IsSound (Counted form peers) = (1 ≤ peers) × (peers ≤ 31)
IsSound (Running form peers view events) = IsSchedule (record { form = form; peers = peers; view = view; events = events })

-- ---- the heading

pub heading_ok : {A : Type 0} (r : Result A Cause) (x : A) → heading r ≡ Ok x → r ≡ Ok x
heading_ok (Ok y) x h = h
heading_ok (Err e) x h = cc h

pub if_heading : {A : Type 0} (b : Bool) (r : Result A Cause) (x : A) → (if b then r else Err Heading) ≡ Ok x → (b ≡ true) × (r ≡ Ok x)
if_heading true r x h = (refl, h)
if_heading false r x h = cc h

pub joined : (text : List ℕ) (words : List (List ℕ)) → words_of text ≡ words → text ≡ join_with_byte 32 words
joined text words h = sym (join_with_byte-slice_split 32 text) ∙ ap (join_with_byte 32) h

pub peers_of-ok : (words : List (List ℕ)) (peers : ℕ) → peers_of words ≡ Ok peers → (words ≡ codes "peers" ∷ decimal peers ∷ []) × (1 ≤ peers) × (peers ≤ 31)
peers_of-ok [] peers h = cc h
peers_of-ok (a ∷ []) peers h = cc h
peers_of-ok (a ∷ b ∷ []) peers h =
    let parts = if_heading (same_bytes a (codes "peers")) (heading (number_of 1 31 b)) peers h in
    let number = number_of-ok 1 31 b peers (lit< tt) (heading_ok (number_of 1 31 b) peers parts.1) in
    let first = bytes_same a (codes "peers") parts.0 in
    ((λ i. first i ∷ number.0 i ∷ []), number.1, number.2)
peers_of-ok (a ∷ b ∷ c ∷ more) peers h = cc h

pub opening_of-ok : (peers : ℕ) (words : List (List ℕ)) (view : List ℕ) → peers ≤ 31 → opening_of peers words ≡ Ok view
    → (words ≡ codes "view" ∷ member_words view) × (AreMembers peers view × IsView view)
opening_of-ok peers [] view few h = cc h
opening_of-ok peers (a ∷ members) view few h =
    let parts = if_heading (same_bytes a (codes "view")) (heading (view_of peers members)) view h in
    let read = view_of-ok peers members view few (heading_ok (view_of peers members) view parts.1) in
    let first = bytes_same a (codes "view") parts.0 in
    ((λ i. first i ∷ read.2 i), (read.0, read.1))

-- ---- a line

stands_end : (peers : ℕ) (events : List ScheduleEvent) (event : ScheduleEvent) → AllMayStand peers events → MayStand peers event → AllMayStand peers (events ++ event ∷ [])
stands_end peers [] event h k = (k, tt)
stands_end peers (e ∷ more) event h k = (h.0, stands_end peers more event h.1 k)

map-end : (events : List ScheduleEvent) (event : ScheduleEvent) → map event_line (events ++ event ∷ []) ≡ map event_line events ++ event_line event ∷ []
map-end [] event = refl
map-end (e ∷ more) event = ap (λ (ls : List (List ℕ)). event_line e ∷ ls) (map-end more event)

pub if_repeated : (b : Bool) (x y : Progress) → (if b then Err Repeated else Ok x) ≡ Ok y → (b ≡ false) × (x ≡ y)
if_repeated true x y h = cc h
if_repeated false x y h = (refl, ok_same h)

with_line-ok : (p q : Progress) (text : List ℕ) → IsSound p → lines_so_far p < 200000 → with_line p text ≡ Ok q
    → IsSound q × (lines_read q ≡ lines_read p ++ text ∷ [])
with_line-ok Blank q text sound few h =
    let form = bind_ok (or_cause Heading (form_named text)) _ q h in
    let word = find_word ensemble_line forms text form.0 (or_cause_ok Heading (form_named text) form.0 form.1) in
    rw (← (ok_same form.2)) (tt, λ i. sym word i ∷ [])
with_line-ok (Titled form) q text sound few h =
    let n = bind_ok (peers_of (words_of text)) _ q h in
    let read = peers_of-ok (words_of text) n.0 n.1 in
    let whole = joined text _ read.0 in
    rw (← (ok_same n.2)) ((read.1, read.2), λ i. ensemble_line form ∷ sym whole i ∷ [])
with_line-ok (Counted form peers) q text sound few h =
    let v = bind_ok (opening_of peers (words_of text)) _ q h in
    let read = opening_of-ok peers (words_of text) v.0 sound.1 v.1 in
    let whole = joined text _ read.0 in
    let good : IsSchedule (record { form = form; peers = peers; view = v.0; events = [] }) = record { peers = sound; view = read.1; events = tt; distinct = tt; lines = omega arith } in
    rw (← (ok_same v.2)) (good, λ i. ensemble_line form ∷ peers_line peers ∷ sym whole i ∷ [])
with_line-ok (Running form peers view events) q text sound few h =
    let e = bind_ok (event_of peers text) _ q h in
    let once = if_repeated (is_repeated events e.0) _ q e.2 in
    let read = event_of-ok peers text e.0 sound.peers.1 e.1 in
    let good : IsSchedule (record { form = form; peers = peers; view = view; events = events ++ e.0 ∷ [] }) = record {
      peers = sound.peers;
      view = sound.view;
      events = stands_end peers events e.0 sound.events read.1;
      distinct = distinct_with events e.0 sound.distinct once.0;
      lines = omega (arith, length-append events (e.0 ∷ []));
    } in
    rw (← once.1) (good, ap (λ (ls : List (List ℕ)). ensemble_line form ∷ peers_line peers ∷ view_line view ∷ ls) (map-end events e.0 ∙ (λ i. map event_line events ++ sym read.0 i ∷ [])))

sound_few : (p : Progress) → IsSound p → lines_so_far p ≤ 200000
sound_few Blank h = omega arith
sound_few (Titled form) h = omega arith
sound_few (Counted form peers) h = omega arith
sound_few (Running form peers view events) h = let few : length events + 3 ≤ 200000 = h.lines in omega arith

pub at_line_ok : {A : Type 0} (n : ℕ) (r : Result A Cause) (x : A) → at_line n r ≡ Ok x → r ≡ Ok x
at_line_ok n (Ok y) x h = let same : y ≡ x = cc h in ap Ok same
at_line_ok n (Err e) x h = cc h

pub unless_lines : {A : Type 0} (b : Bool) (r : Result A ScheduleError) (x : A) → (if b then Err Lines else r) ≡ Ok x → (b ≡ false) × (r ≡ Ok x)
unless_lines true r x h = cc h
unless_lines false r x h = (refl, h)

pub past_lines : {A : Type 0} (b : Bool) (r : Result A ScheduleError) → b ≡ true → (if b then Err Lines else r) ≡ Err Lines
past_lines true r h = refl
past_lines false r h = absurd cc

pub last_is_tested : (n : ℕ) → n ≡ 200000 → (n == most_lines) ≡ true
last_is_tested n e = grind (arith, nat_tests, e)

pub from_bind : {A B G : Type 0} (r : Result A Cause) (f : A → Result B Cause) (q : B) → (r >>= f) ≡ Ok q → ((x : A) → f x ≡ Ok q → G) → G
from_bind (Ok x) f q h go = go x h
from_bind (Err c) f q h go = absurd cc

pub not_last : (n : ℕ) → (n == most_lines) ≡ false → n ≤ 200000 → n < 200000
not_last n h k = grind (arith, nat_tests)

next_line-ok : (p q : Progress) (text : List ℕ) → IsSound p → next_line p text ≡ Ok q → IsSound q × (lines_read q ≡ lines_read p ++ text ∷ [])
next_line-ok p q text sound h =
    let parts = unless_lines (lines_so_far p == most_lines) (at_next p (bounded text (with_line p text))) q h in
    let within = at_line_ok (lines_so_far p + 1) (bounded text (with_line p text)) q parts.1 in
    with_line-ok p q text sound (not_last (lines_so_far p) parts.0 (sound_few p sound)) (short_enough (nat_lt line_limit (length text)) (with_line p text) q within)

-- ---- the end

finished-ok : (p : Progress) (s : Schedule) → IsSound p → finished p ≡ Ok s → IsSchedule s × (lines_read p ≡ schedule_lines s)
finished-ok Blank s sound h = cc h
finished-ok (Titled form) s sound h = cc h
finished-ok (Counted form peers) s sound h = cc h
finished-ok (Running form peers view events) s sound h = rw (← (ok_same h)) (sound, refl)

pub bounded_err : {A : Type 0} (text : List ℕ) (cause : Cause) (x : A) → bounded text (Err cause) ≡ Ok x → ⊥
bounded_err {A = A} text cause x h = by (nat_lt line_limit (length text)) h
  where
    by : (b : Bool) → (if b then Err TooLong else Err cause) ≡ Ok x → ⊥
    by true h = cc h
    by false h = cc h

ended-ok : (p : Progress) (rest : List ℕ) (s : Schedule) → IsSound p → ended p rest ≡ Ok s → IsSchedule s × (feeds (lines_read p) ++ rest ≡ schedule_text s)
ended-ok p [] s sound h =
    let read = finished-ok p s sound (at_line_ok (lines_so_far p + 1) (finished p) s h) in
    (read.0, append-nil (feeds (lines_read p)) ∙ ap feeds read.1)
ended-ok p (b ∷ rest) s sound h =
    let parts = unless_lines (lines_so_far p == most_lines) (at_next p (bounded (b ∷ rest) (Err Unfinished))) s h in
    absurd (bounded_err (b ∷ rest) Unfinished s (at_line_ok (lines_so_far p + 1) (bounded (b ∷ rest) (Err Unfinished)) s parts.1))

pub and_then_ok : (r : Result Progress ScheduleError) (f : Progress → Result Schedule ScheduleError) (s : Schedule) → and_then r f ≡ Ok s
    → (q : Progress) × (r ≡ Ok q) × (f q ≡ Ok s)
and_then_ok (Ok q) f s h = (q, refl, h)
and_then_ok (Err e) f s h = cc h

pub feeds-end : (lines : List (List ℕ)) (text rest : List ℕ) → feeds (lines ++ text ∷ []) ++ rest ≡ feeds lines ++ (text ++ (10 ∷ rest))
feeds-end lines text rest = ap (λ (ls : List ℕ). ls ++ rest) (flat_map-append feed lines (text ∷ [])) ∙ simp (append_assoc, append-nil)

parts_read : (p : Progress) (parts : List (List ℕ)) (s : Schedule) → IsSound p → read_parts p parts ≡ Ok s
    → IsSchedule s × (feeds (lines_read p) ++ join_with_byte 10 parts ≡ schedule_text s)
parts_read p [] s sound h = ended-ok p [] s sound h
parts_read p (rest ∷ []) s sound h = ended-ok p rest s sound h
parts_read p (text ∷ next ∷ more) s sound h =
    let q = and_then_ok (next_line p text) (λ q. read_parts q (next ∷ more)) s h in
    let line = next_line-ok p q.0 text sound q.1 in
    let later = parts_read q.0 (next ∷ more) s line.0 q.2 in (
      later.0,
      sym (feeds-end (lines_read p) text (join_with_byte 10 (next ∷ more)))
          ∙ sym (ap (λ (ls : List (List ℕ)). feeds ls ++ join_with_byte 10 (next ∷ more)) line.1) ∙ later.1,
    )

-- a text that is read as a schedule is the text of it
pub schedule_of-ok : (text : List ℕ) (s : Schedule) → schedule_of text ≡ Ok s → IsSchedule s × (schedule_text s ≡ text)
schedule_of-ok text s h =
    let read = parts_read Blank (parts_of 10 text) s tt h in
    (read.0, sym read.1 ∙ join_with_byte-slice_split 10 text)
