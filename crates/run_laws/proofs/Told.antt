-- A schedule, the line `answers`, lines that may follow each other, and the histories, are read as a record.
use Rattle.std.proofs.Common.{◌≡◌, ℕ, ◌+◌, ◌≤◌, ◌==◌, Bool, true, false, if◌then◌else◌, List, [], ◌∷◌, ◌++◌, length, codes, map, Option, Some, Result, Ok, Err, refl, sym, ap, subst, ◌∙◌, inl, inr, arith, lit≤, append_assoc, append-nil}
use Rattle.world_refinement.specs.Lines.{answers_in}
use Rattle.std.proofs.lemmas.List.Concat.{flat_map-append}
use Rattle.std.proofs.lemmas.Bool.{ne_eqb, le-ltb}
use Rattle.std.specs.Fmt.{decimal}
use Rattle.std.specs.List.{AllByRecursion, flat_map, list_any}
use Rattle.ens_base.proofs.Lists.{bytes_same, bytes_itself, in-map}
use Rattle.ens_base.proofs.Tests.{itself}
use Rattle.ens_base.specs.Lists.{◌∈◌, AreDistinct, same_bytes}
use Rattle.register_model.specs.declared.answer.Answer.{Answer}
use Rattle.register_model.specs.declared.history.History.{History}
use Rattle.register_model.specs.declared.printed.Printed.{Printed}
use Rattle.register_model.specs.declared.printed.Printed.TheVariants as lines
use Rattle.history_scribe.specs.Text.{history_line, printed_line}
use Rattle.history_record.specs.Calls.{call_event, change_peer, keys_of}
use Rattle.history_record.specs.Reading.{Stage, Before, Behind, and_then, answers_line, before, next_stage, opened, read_parts, record_of}
use Rattle.history_record.specs.Telling.{Heard, is_answered, is_changed, nothing_heard}
use Rattle.history_record.specs.declared.error.AuditError.{AuditError}
use Rattle.lexemes.proofs.Joined.{has, has-decimal, has-letters, length-decimal, parts_of-more}
use Rattle.lexemes.specs.Causes.{cause_number}
use Rattle.lexemes.specs.declared.cause.Cause.TheVariants.{Heading, Unknown}
use Rattle.lexemes.specs.Spelling.{member_words}
use Rattle.lexemes.specs.Words.{parts_of}
use Rattle.schedule_text.proofs.OneLine.{event_line-one, has-join, members_word}
use Rattle.schedule_text.proofs.SchedulesAgain.{form_one, schedule_of-text}
use Rattle.schedule_text.proofs.SchedulesRead.{and_then_ok}
use Rattle.schedule_text.specs.Progress.{Progress, Blank, Titled, Counted, Running, lines_so_far}
use Rattle.schedule_text.specs.Reading as schedule
use Rattle.schedule_text.specs.Spelling.{AllMayStand, IsSchedule, event_line, schedule_lines, schedule_text}
use Rattle.schedule_text.specs.Writing.{feed, feeds}
use Rattle.schedule_text.specs.declared.error.ScheduleError.{ScheduleError}
use Rattle.schedule_text.specs.declared.error.ScheduleError.TheVariants.{Bad, Lines}
use Rattle.schedule_text.specs.declared.event.ScheduleEvent.{ScheduleEvent}
use Rattle.schedule_text.specs.declared.schedule.Schedule.{Schedule}
use Rattle.run_laws.proofs.Again.{HistoryFits, LineFits, answer_heard, change_heard, history_heard, history_one, history_spelled, history_text, line_one, line_spelled, line_text}

-- ## Lines that may follow each other

-- From this event on, and so far that the next line may have that one: no line goes back, a change line is
-- of an event that asks its peer, and no line follows it at its event.
abbrev pub Follow : (ℕ → Option ℕ) → ℕ → ℕ → List Printed → Type 0
Follow asked low high [] = low ≤ high
Follow asked low high (lines.Answer a ∷ more) = (low ≤ a.event) × Follow asked a.event high more
Follow asked low high (lines.Change event peer taken ∷ more) = (low ≤ event) × (asked event ≡ Some peer) × Follow asked (event + 1) high more

-- the answer is to a call of the schedule, no earlier than it, and at an event of the schedule
pub record IsTimely (events : List ScheduleEvent) (a : Answer) : Type 0 where
  pub called : ℕ
  pub call : call_event 1 events a.id ≡ Some called
  pub after : called ≤ a.event
  pub within : a.event ≤ length events

abbrev ids_of : List Answer → List ℕ
ids_of answers = map (λ a. a.id) answers

-- the lines may be those of a run of these events
pub record AreTold (events : List ScheduleEvent) (printed : List Printed) : Type 0 where
  pub last : ℕ
  pub follow : Follow (change_peer 1 events) 0 last printed
  pub fit : AllByRecursion LineFits printed
  pub timely : (a : Answer) → a ∈ answers_in printed → IsTimely events a
  pub once : AreDistinct (ids_of (answers_in printed))

-- ## Lines are parted

-- no line has a line feed
abbrev AreLines : List (List ℕ) → Type 0
AreLines [] = Unit {0}
AreLines (text ∷ more) = (has 10 text ≡ false) × AreLines more

both_lines : (xs ys : List (List ℕ)) → AreLines xs → AreLines ys → AreLines (xs ++ ys)
both_lines [] ys h k = k
both_lines (x ∷ xs) ys h k = (h.0, both_lines xs ys h.1 k)

parts_of-feeds : (texts : List (List ℕ)) → AreLines texts → parts_of 10 (feeds texts) ≡ texts ++ [] ∷ []
parts_of-feeds [] h = refl
parts_of-feeds (text ∷ more) h =
    ap (parts_of 10) (append_assoc text (10 ∷ []) (feeds more)) ∙ parts_of-more 10 text (feeds more) h.0 ∙ ap (λ (ps : List (List ℕ)). text ∷ ps) (parts_of-feeds more h.1)

events_lines : (peers : ℕ) (events : List ScheduleEvent) → peers ≤ 31 → AllMayStand peers events → AreLines (map event_line events)
events_lines peers [] few h = tt
events_lines peers (e ∷ more) few h = (event_line-one peers e few h.0, events_lines peers more few h.1)

schedule_are_lines : (s : Schedule) → IsSchedule s → AreLines (schedule_lines s)
schedule_are_lines s h =
    let few : s.peers ≤ 31 = h.peers.1 in
    let peers = has-join 10 (codes "peers" ∷ decimal s.peers ∷ []) (omega arith) (has-letters 10 (codes "peers") (omega arith) refl, omega arith, (has-decimal 10 s.peers (omega arith) (omega arith), length-decimal s.peers (omega arith), tt)) in
    let view = has-join 10 (codes "view" ∷ member_words s.view) (omega arith) (has-letters 10 (codes "view") (omega arith) refl, omega arith, members_word 10 1 s.peers s.view (omega arith) few h.view.0) in
    (form_one s.form, (peers, (view, events_lines s.peers s.events few h.events)))

printed_lines : (printed : List Printed) → AllByRecursion LineFits printed → AreLines (map line_text printed)
printed_lines [] h = tt
printed_lines (p ∷ more) h = (line_one p h.0, printed_lines more h.1)

histories_lines : (histories : List History) → AllByRecursion HistoryFits histories → AreLines (map history_text histories)
histories_lines [] h = tt
histories_lines (g ∷ more) h = (history_one g h.0, histories_lines more h.1)

printed_feeds : (printed : List Printed) → flat_map printed_line printed ≡ feeds (map line_text printed)
printed_feeds [] = refl
printed_feeds (p ∷ more) = λ i. line_spelled p i ++ printed_feeds more i

histories_feeds : (histories : List History) → flat_map history_line histories ≡ feeds (map history_text histories)
histories_feeds [] = refl
histories_feeds (h ∷ more) = λ i. history_spelled h i ++ histories_feeds more i

-- ## The lines of the schedule

-- a line that is taken
taken : (stage new : Stage) (text : List ℕ) (more : List (List ℕ)) (next : List ℕ) (rest : List (List ℕ)) → next_stage stage text ≡ Ok new → read_parts stage (text ∷ (more ++ next ∷ rest)) ≡ read_parts new (more ++ next ∷ rest)
taken stage new text [] next rest h = ap (λ (r : Result Stage AuditError). and_then r (λ n. read_parts n (next ∷ rest))) h
taken stage new text (x ∷ xs) next rest h = ap (λ (r : Result Stage AuditError). and_then r (λ n. read_parts n (x ∷ (xs ++ next ∷ rest)))) h

neither : (b : Bool) (e f : ScheduleError) (q : Progress) → ◌≡◌ {A = Result Progress ScheduleError} (if b then Err e else Err f) (Ok q) → ⊥
neither true e f q h = cc h
neither false e f q h = cc h

-- the line `answers` is none of a schedule
not_answers : (p q : Progress) → schedule.next_line p answers_line ≡ Ok q → ⊥
not_answers Blank q h = neither (lines_so_far Blank == schedule.most_lines) Lines (Bad (lines_so_far Blank + 1) (cause_number Heading)) q h
not_answers (Titled form) q h = neither (lines_so_far (Titled form) == schedule.most_lines) Lines (Bad (lines_so_far (Titled form) + 1) (cause_number Heading)) q h
not_answers (Counted form peers) q h = neither (lines_so_far (Counted form peers) == schedule.most_lines) Lines (Bad (lines_so_far (Counted form peers) + 1) (cause_number Heading)) q h
not_answers (Running form peers view events) q h = neither (lines_so_far (Running form peers view events) == schedule.most_lines) Lines (Bad (lines_so_far (Running form peers view events) + 1) (cause_number Unknown)) q h

schedule_line : (p q : Progress) (text : List ℕ) → schedule.next_line p text ≡ Ok q → next_stage (Before p) text ≡ Ok (Before q)
schedule_line p q text e = by (same_bytes text answers_line) refl
  where
    by : (b : Bool) → same_bytes text answers_line ≡ b → (if b then opened (schedule.ended p []) else before (schedule.next_line p text)) ≡ Ok (Before q)
    by true is = absurd (not_answers p q (subst (λ (t : List ℕ). schedule.next_line p t ≡ Ok q) (bytes_same text answers_line is) e))
    by false is = ap before e

schedule_step : (p : Progress) (text : List ℕ) (more : List (List ℕ)) → schedule.read_parts p (text ∷ (more ++ [] ∷ [])) ≡ schedule.and_then (schedule.next_line p text) (λ q. schedule.read_parts q (more ++ [] ∷ []))
schedule_step p text [] = refl
schedule_step p text (x ∷ xs) = refl

schedule_read : (p : Progress) (texts : List (List ℕ)) (next : List ℕ) (rest : List (List ℕ)) (s : Schedule) → schedule.read_parts p (texts ++ [] ∷ []) ≡ Ok s
    → read_parts (Before p) (texts ++ (answers_line ∷ next ∷ rest)) ≡ read_parts (Behind (nothing_heard s)) (next ∷ rest)
schedule_read p [] next rest s h = taken (Before p) (Behind (nothing_heard s)) answers_line [] next rest (ap opened h)
schedule_read p (text ∷ more) next rest s h =
    let q = and_then_ok (schedule.next_line p text) (λ q. schedule.read_parts q (more ++ [] ∷ [])) s (sym (schedule_step p text more) ∙ h) in
    taken (Before p) (Before q.0) text more answers_line (next ∷ rest) (schedule_line p q.0 text q.1) ∙ schedule_read q.0 more next rest s q.2

-- ## The printed lines

none_more : {A : Type 0} (test : A → Bool) (xs : List A) (x : A) → list_any test xs ≡ false → test x ≡ false → list_any test (xs ++ x ∷ []) ≡ false
none_more test [] x h k = rw k refl
none_more test (y ∷ ys) x h k = by (test y) refl h (λ none. none_more test ys x none k)
  where
    by : (b : Bool) → test y ≡ b → list_any test (y ∷ ys) ≡ false → (list_any test ys ≡ false → list_any test (ys ++ x ∷ []) ≡ false) → list_any test (y ∷ (ys ++ x ∷ [])) ≡ false
    by true is h later = let none : true ≡ false = sym (rw is refl) ∙ h in absurd cc
    by false is h later = rw is (later (rw is at h))

module _ (s : Schedule) (keys : List (List ℕ)) where
  -- so many lines were read, and no history
  abbrev heard : ℕ → List Answer → List ℕ → ℕ → Heard
  heard n answers changes latest = record { lines = n; schedule = s; answers = answers; changes = changes; latest = latest; histories = []; keys = keys }

  answer_line_read : (n : ℕ) (answers : List Answer) (changes : List ℕ) (latest : ℕ) (a : Answer) → LineFits (lines.Answer a) → IsTimely s.events a → latest ≤ a.event → is_answered answers a.id ≡ false
      → next_stage (Behind (heard n answers changes latest)) (line_text (lines.Answer a)) ≡ Ok (Behind (heard (n + 1) (answers ++ a ∷ []) changes a.event))
  answer_line_read n answers changes latest a fits timely late new =
      rw (answer_heard (heard n answers changes latest) a refl fits, new, timely.call, le-ltb a.event timely.called timely.after, le-ltb (length s.events) a.event timely.within, le-ltb a.event latest late) refl

  change_line_read : (n : ℕ) (answers : List Answer) (changes : List ℕ) (latest event peer : ℕ) (was : Bool) → LineFits (lines.Change event peer was) → change_peer 1 s.events event ≡ Some peer → latest ≤ event → is_changed changes event ≡ false
      → next_stage (Behind (heard n answers changes latest)) (line_text (lines.Change event peer was)) ≡ Ok (Behind (heard (n + 1) answers (changes ++ event ∷ []) event))
  change_line_read n answers changes latest event peer was fits asked late new =
      rw (change_heard (heard n answers changes latest) event peer was refl fits, new, asked, itself peer, le-ltb event latest late) refl

  printed_read : (n : ℕ) (answers : List Answer) (changes : List ℕ) (latest low high : ℕ) (printed : List Printed) (next : List ℕ) (rest : List (List ℕ))
      → Follow (change_peer 1 s.events) low high printed → AllByRecursion LineFits printed → ((a : Answer) → a ∈ answers_in printed → IsTimely s.events a) → AreDistinct (ids_of (answers_in printed))
      → latest ≤ low → ((e : ℕ) → low ≤ e → is_changed changes e ≡ false) → ((a : Answer) → a ∈ answers_in printed → is_answered answers a.id ≡ false)
      → (m : ℕ) × (cs : List ℕ) × (l : ℕ) × (read_parts (Behind (heard n answers changes latest)) (map line_text printed ++ next ∷ rest) ≡ read_parts (Behind (heard m (answers ++ answers_in printed) cs l)) (next ∷ rest))
  printed_read n answers changes latest low high [] next rest follow fit timely once late fresh new =
      (n, changes, latest, ap (λ (given : List Answer). read_parts (Behind (heard n given changes latest)) (next ∷ rest)) (sym (append-nil answers)))
  printed_read n answers changes latest low high (lines.Answer a ∷ more) next rest follow fit timely once late fresh new =
      let later = printed_read (n + 1) (answers ++ a ∷ []) changes a.event a.event high more next rest follow.1 fit.1 (λ b m. timely b (inr m)) once.1 (omega arith) (λ e up. fresh e (omega (arith, follow.0, up)))
      (λ b m. none_more (λ c. c.id == b.id) answers a (new b (inr m)) (ne_eqb a.id b.id (λ e. once.0 (subst (λ (i : ℕ). i ∈ ids_of (answers_in more)) (sym e) (in-map (λ (c : Answer). c.id) (answers_in more) b m))))) in
      let first = answer_line_read n answers changes latest a fit.0 (timely a (inl refl)) (omega (arith, late, follow.0)) (new a (inl refl)) in (
        later.0,
        later.1,
        later.2,
        taken (Behind (heard n answers changes latest)) (Behind (heard (n + 1) (answers ++ a ∷ []) changes a.event)) (line_text (lines.Answer a)) (map line_text more) next rest first ∙ later.3
            ∙ ap (λ (given : List Answer). read_parts (Behind (heard later.0 given later.1 later.2)) (next ∷ rest)) (append_assoc answers (a ∷ []) (answers_in more)),
      )
  printed_read n answers changes latest low high (lines.Change event peer was ∷ more) next rest follow fit timely once late fresh new =
      let later = printed_read (n + 1) answers (changes ++ event ∷ []) event (event + 1) high more next rest follow.2 fit.1 timely once (omega arith)
      (λ e up. none_more (λ d. d == e) changes event (fresh e (omega (arith, follow.0, up))) (ne_eqb event e (λ same. absurd (omega (arith, same, up))))) new in
      let first = change_line_read n answers changes latest event peer was fit.0 follow.1 (omega (arith, late, follow.0)) (fresh event follow.0) in
      (later.0, later.1, later.2, taken (Behind (heard n answers changes latest)) (Behind (heard (n + 1) answers (changes ++ event ∷ []) event)) (line_text (lines.Change event peer was)) (map line_text more) next rest first ∙ later.3)

-- ## The histories

module _ (s : Schedule) (answers : List Answer) (changes : List ℕ) (latest : ℕ) where
  -- these histories were read, and those of these keys are left
  abbrev told : ℕ → List History → List (List ℕ) → Heard
  told n histories keys = record { lines = n; schedule = s; answers = answers; changes = changes; latest = latest; histories = histories; keys = keys }

  histories_read : (n : ℕ) (done rest : List History) → AllByRecursion HistoryFits rest
      → read_parts (Behind (told n done (map (λ h. h.key) rest))) (map history_text rest ++ [] ∷ []) ≡ Ok (record { schedule = s; answers = answers; histories = done ++ rest })
  histories_read n done [] fit = ap (λ (hs : List History). Ok (record { schedule = s; answers = answers; histories = hs })) (sym (append-nil done))
  histories_read n done (h ∷ rest) fit =
      let old : Heard = told n done (map (λ g. g.key) (h ∷ rest)) in
      let new : Heard = told (n + 1) (done ++ h ∷ []) (map (λ g. g.key) rest) in
      let line : next_stage (Behind old) (history_text h) ≡ Ok (Behind new) = rw (history_heard old h fit.0, bytes_itself h.key) refl in
      taken (Behind old) (Behind new) (history_text h) (map history_text rest) [] [] line ∙ histories_read (n + 1) (done ++ h ∷ []) rest fit.1
      ∙ ap (λ (hs : List History). Ok (record { schedule = s; answers = answers; histories = hs })) (append_assoc done (h ∷ []) rest)

-- ## The whole text

first_of : (texts : List (List ℕ)) → (next : List ℕ) × (rest : List (List ℕ)) × (texts ++ [] ∷ [] ≡ next ∷ rest)
first_of [] = ([], [], refl)
first_of (t ∷ ts) = (t, ts ++ [] ∷ [], refl)

-- the text of a schedule, the line `answers`, these lines and these histories are read as their record
pub text_read : (s : Schedule) (printed : List Printed) (histories : List History) → IsSchedule s → AreTold s.events printed → AllByRecursion HistoryFits histories → map (λ h. h.key) histories ≡ keys_of s.events
    → record_of (schedule_text s ++ codes "answers\n" ++ flat_map printed_line printed ++ flat_map history_line histories) ≡ Ok (record { schedule = s; answers = answers_in printed; histories = histories })
text_read s printed histories is are fit keys = ap record_of spelled ∙ ap (read_parts (Before Blank)) (parts_of-feeds texts are_lines) ∙ whole
  where
    behind : List (List ℕ)
    behind = map line_text printed ++ map history_text histories

    texts : List (List ℕ)
    texts = schedule_lines s ++ (answers_line ∷ behind)

    spelled : schedule_text s ++ codes "answers\n" ++ flat_map printed_line printed ++ flat_map history_line histories ≡ feeds texts
    spelled =
        (λ i. schedule_text s ++ codes "answers\n" ++ printed_feeds printed i ++ histories_feeds histories i)
        ∙ append_assoc (schedule_text s ++ codes "answers\n") (feeds (map line_text printed)) (feeds (map history_text histories))
        ∙ append_assoc (schedule_text s) (codes "answers\n") (feeds (map line_text printed) ++ feeds (map history_text histories))
        ∙ ap (λ (l : List ℕ). schedule_text s ++ (codes "answers\n" ++ l)) (sym (flat_map-append feed (map line_text printed) (map history_text histories)))
        ∙ sym (flat_map-append feed (schedule_lines s) (answers_line ∷ behind))

    are_lines : AreLines texts
    are_lines = both_lines (schedule_lines s) (answers_line ∷ behind) (schedule_are_lines s is) (refl, both_lines (map line_text printed) (map history_text histories) (printed_lines printed are.fit) (histories_lines histories fit))

    schedule_again : schedule.read_parts Blank (schedule_lines s ++ [] ∷ []) ≡ Ok s
    schedule_again = sym (ap (schedule.read_parts Blank) (parts_of-feeds (schedule_lines s) (schedule_are_lines s is))) ∙ schedule_of-text s is

    after : List (List ℕ)
    after = map history_text histories

    whole : read_parts (Before Blank) (texts ++ [] ∷ []) ≡ Ok (record { schedule = s; answers = answers_in printed; histories = histories })
    whole =
        let all = first_of behind in
        let last = first_of after in
        let lines_read = printed_read s (keys_of s.events) (length s.events + 4) [] [] 0 0 are.last printed last.0 last.1 are.follow are.fit are.timely are.once (lit≤ tt) (λ e up. refl) (λ a m. refl) in
        ap (read_parts (Before Blank)) (append_assoc (schedule_lines s) (answers_line ∷ behind) ([] ∷ []) ∙ ap (λ (ts : List (List ℕ)). schedule_lines s ++ (answers_line ∷ ts)) all.2)
        ∙ schedule_read Blank (schedule_lines s) all.0 all.1 s schedule_again
        ∙ ap (read_parts (Behind (nothing_heard s))) (sym all.2 ∙ append_assoc (map line_text printed) after ([] ∷ []) ∙ ap (λ (ts : List (List ℕ)). map line_text printed ++ ts) last.2)
        ∙ lines_read.3
        ∙ ap (read_parts (Behind (heard s (keys_of s.events) lines_read.0 (answers_in printed) lines_read.1 lines_read.2))) (sym last.2)
        ∙ ap (λ (ks : List (List ℕ)). read_parts (Behind (heard s ks lines_read.0 (answers_in printed) lines_read.1 lines_read.2)) (after ++ [] ∷ [])) (sym keys)
        ∙ histories_read s (answers_in printed) lines_read.1 lines_read.2 lines_read.0 [] histories fit
