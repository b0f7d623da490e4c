-- The text of a schedule is read as it.
use Rattle.std.proofs.Common.{◌≡◌, ℕ, ◌+◌, ◌<◌, ◌≤◌, ◌==◌, false, nat_lt, List, [], ◌∷◌, ◌++◌, length, codes, map, Result, Ok, refl, ap, ◌∙◌, arith, lit<, append_assoc, append-nil}
use Rattle.std.proofs.lemmas.Bool.Decides.{nat_tests}
use Rattle.std.proofs.lemmas.List.{length-append}
use Rattle.std.specs.Fmt.{decimal}
use Rattle.ens_base.specs.Lists.{AreDistinct}
use Rattle.ens_base.specs.View.{IsView}
use Rattle.ens_base.specs.Results.{◌>>=◌}
use Rattle.lexemes.specs.Spelling.{AreMembers, member_words}
use Rattle.lexemes.specs.Words.{parts_of, words_of}
use Rattle.lexemes.proofs.Ascending.{view_of-words}
use Rattle.lexemes.proofs.Dotted.{number_of-decimal}
use Rattle.lexemes.proofs.Joined.{AreWords, has, has-decimal, has-letters, length-decimal, parts_of-join, parts_of-more}
use Rattle.schedule_text.specs.Events.{line_limit}
use Rattle.schedule_text.specs.Forms.{ensemble_line}
use Rattle.schedule_text.specs.Progress.{Progress, Blank, Titled, Counted, Running, lines_so_far, is_repeated}
use Rattle.schedule_text.specs.Reading.{and_then, most_lines, next_line, opening_of, peers_of, read_parts, schedule_of, with_line}
use Rattle.schedule_text.specs.Spelling.{AllMayStand, IsSchedule, MayStand, call_ids, event_line, peers_line, schedule_lines, schedule_text, view_line}
use Rattle.schedule_text.specs.Writing.{feeds}
use Rattle.schedule_text.specs.declared.error.ScheduleError.{ScheduleError}
use Rattle.schedule_text.specs.declared.event.ScheduleEvent.{ScheduleEvent}
use Rattle.schedule_text.specs.declared.form.Form.{Form}
use Rattle.schedule_text.specs.declared.form.Form.TheVariants.{One, Two, Three}
use Rattle.schedule_text.specs.declared.schedule.Schedule.{Schedule}
use Rattle.schedule_text.proofs.Ids.{not_repeated}
use Rattle.schedule_text.proofs.OneLine.{decimal_short, event_line-one, event_line-short, event_of-line, has-join, members_short, members_word, short_line}

-- ---- lines are parted again

-- no line has a line feed
abbrev AreLines : List (List ℕ) → Type 0
AreLines [] = Unit {0}
AreLines (text ∷ more) = (has 10 text ≡ false) × AreLines more

parts_of-feeds : (lines : List (List ℕ)) → AreLines lines → parts_of 10 (feeds lines) ≡ lines ++ [] ∷ []
parts_of-feeds [] h = refl
parts_of-feeds (text ∷ more) h =
    ap (parts_of 10) (append_assoc text (10 ∷ []) (feeds more)) ∙ parts_of-more 10 text (feeds more) h.0 ∙ ap (λ (ps : List (List ℕ)). text ∷ ps) (parts_of-feeds more h.1)

-- a line that is taken
step : (p q : Progress) (text : List ℕ) (more : List (List ℕ)) → next_line p text ≡ Ok q → read_parts p (text ∷ (more ++ [] ∷ [])) ≡ read_parts q (more ++ [] ∷ [])
step p q text [] h = ap (λ (r : Result Progress ScheduleError). and_then r (λ n. read_parts n ([] ∷ []))) h
step p q text (x ∷ xs) h = ap (λ (r : Result Progress ScheduleError). and_then r (λ n. read_parts n (x ∷ (xs ++ [] ∷ [])))) h

not_last : (n : ℕ) → n < 200000 → (n == most_lines) ≡ false
not_last n h = grind (arith, nat_tests)

taken : (p q : Progress) (text : List ℕ) → lines_so_far p < 200000 → nat_lt line_limit (length text) ≡ false → with_line p text ≡ Ok q → next_line p text ≡ Ok q
taken p q text few short h =
    let go_on : (lines_so_far p == most_lines) ≡ false = not_last (lines_so_far p) few in
    rw (go_on, short, h) refl

-- ---- the heading

peers_words : (at peers : ℕ) → at < 45 → peers ≤ 31 → AreWords at (codes "peers" ∷ decimal peers ∷ [])
peers_words at peers low few = (has-letters at (codes "peers") (omega arith) refl, lit< tt, (has-decimal at peers (omega arith) (omega arith), length-decimal peers (omega arith), tt))

form_again : (form : Form) → next_line Blank (ensemble_line form) ≡ Ok (Titled form)
form_again One = refl
form_again Two = refl
form_again Three = refl

-- the first line has no line feed
pub form_one : (form : Form) → has 10 (ensemble_line form) ≡ false
form_one One = refl
form_one Two = refl
form_one Three = refl

peers_again : (form : Form) (peers : ℕ) → 1 ≤ peers → peers ≤ 31 → with_line (Titled form) (peers_line peers) ≡ Ok (Counted form peers)
peers_again form peers least most =
    let words : words_of (peers_line peers) ≡ codes "peers" ∷ decimal peers ∷ [] = parts_of-join 32 (codes "peers") (decimal peers ∷ []) (peers_words 32 peers (lit< tt) most) in
    let number = number_of-decimal 1 31 peers least most (omega arith) in
    ap (λ (ws : List (List ℕ)). peers_of ws >>= λ n. Ok (Counted form n)) words ∙ rw number refl

view_words : (at peers : ℕ) (view : List ℕ) → at < 45 → peers ≤ 31 → AreMembers peers view → AreWords at (codes "view" ∷ member_words view)
view_words at peers view low few h = (has-letters at (codes "view") (omega arith) refl, lit< tt, members_word at 1 peers view low few h)

view_again : (form : Form) (peers : ℕ) (view : List ℕ) → peers ≤ 31 → AreMembers peers view → IsView view → with_line (Counted form peers) (view_line view) ≡ Ok (Running form peers view [])
view_again form peers view few members is_view =
    let words : words_of (view_line view) ≡ codes "view" ∷ member_words view = parts_of-join 32 (codes "view") (member_words view) (view_words 32 peers view (lit< tt) few members) in
    let read = view_of-words peers view few members is_view in
    ap (λ (ws : List (List ℕ)). opening_of peers ws >>= λ v. Ok (Running form peers v [])) words ∙ rw read refl

-- ---- the events

event_again : (form : Form) (peers : ℕ) (view : List ℕ) (events : List ScheduleEvent) (event : ScheduleEvent) → peers ≤ 31 → MayStand peers event → is_repeated events event ≡ false
    → with_line (Running form peers view events) (event_line event) ≡ Ok (Running form peers view (events ++ event ∷ []))
event_again form peers view events event few stands once = rw (event_of-line peers event few stands, once) refl

events_again : (form : Form) (peers : ℕ) (view : List ℕ) (done rest : List ScheduleEvent) → peers ≤ 31 → AllMayStand peers rest → AreDistinct (call_ids (done ++ rest))
    → length done + length rest + 3 ≤ 200000
    → read_parts (Running form peers view done) (map event_line rest ++ [] ∷ []) ≡ Ok (record { form = form; peers = peers; view = view; events = done ++ rest })
events_again form peers view done [] few stands distinct room = rw append-nil refl
events_again form peers view done (e ∷ more) few stands distinct room =
    let whole : (done ++ e ∷ []) ++ more ≡ done ++ e ∷ more = append_assoc done (e ∷ []) more in
    let line = taken (Running form peers view done) (Running form peers view (done ++ e ∷ [])) (event_line e) (omega arith) (event_line-short peers e few stands.0)
    (event_again form peers view done e few stands.0 (not_repeated done more e distinct)) in
    let later = events_again form peers view (done ++ e ∷ []) more few stands.1 (rw whole distinct) (omega (arith, length-append done (e ∷ []))) in
    step (Running form peers view done) (Running form peers view (done ++ e ∷ [])) (event_line e) (map event_line more) line
    ∙ later ∙ ap (λ (es : List ScheduleEvent). Ok (record { form = form; peers = peers; view = view; events = es })) whole

-- ---- the whole text

events_lines : (peers : ℕ) (events : List ScheduleEvent) → peers ≤ 31 → AllMayStand peers events → AreLines (map event_line events)
events_lines peers [] few h = tt
events_lines peers (e ∷ more) few h = (event_line-one peers e few h.0, events_lines peers more few h.1)

lines_again : (s : Schedule) → IsSchedule s → AreLines (schedule_lines s)
lines_again s h =
    let few : s.peers ≤ 31 = h.peers.1 in (
      form_one s.form,
      (
        has-join 10 (codes "peers" ∷ decimal s.peers ∷ []) (lit< tt) (peers_words 10 s.peers (lit< tt) few),
        (has-join 10 (codes "view" ∷ member_words s.view) (lit< tt) (view_words 10 s.peers s.view (lit< tt) few h.view.0), events_lines s.peers s.events few h.events),
      ),
    )

peers_short : (peers : ℕ) → peers ≤ 31 → nat_lt line_limit (length (peers_line peers)) ≡ false
peers_short peers few = short_line (codes "peers" ∷ decimal peers ∷ []) (omega (arith, decimal_short peers (omega arith)))

view_short : (peers : ℕ) (view : List ℕ) → peers ≤ 31 → AreMembers peers view → nat_lt line_limit (length (view_line view)) ≡ false
view_short peers view few h = short_line (codes "view" ∷ member_words view) (omega (arith, members_short peers view few h))

-- the text of a schedule is read as the schedule
pub schedule_of-text : (s : Schedule) → IsSchedule s → schedule_of (schedule_text s) ≡ Ok s
schedule_of-text s h =
    let few : s.peers ≤ 31 = h.peers.1 in
    let events = map event_line s.events in
    ap (read_parts Blank) (parts_of-feeds (schedule_lines s) (lines_again s h))
    ∙ step Blank (Titled s.form) (ensemble_line s.form) (peers_line s.peers ∷ view_line s.view ∷ events) (form_again s.form)
    ∙ step (Titled s.form) (Counted s.form s.peers) (peers_line s.peers) (view_line s.view ∷ events) (taken (Titled s.form) (Counted s.form s.peers) (peers_line s.peers) (lit< tt) (peers_short s.peers few) (peers_again s.form s.peers h.peers.0 few))
    ∙ step (Counted s.form s.peers) (Running s.form s.peers s.view []) (view_line s.view) events (taken (Counted s.form s.peers) (Running s.form s.peers s.view []) (view_line s.view) (lit< tt) (view_short s.peers s.view few h.view.0) (view_again s.form s.peers s.view few h.view.0 h.view.1))
    ∙ events_again s.form s.peers s.view [] s.events few h.events h.distinct (omega (arith, h.lines))
