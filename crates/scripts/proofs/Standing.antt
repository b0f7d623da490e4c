-- What is read as a script is one.
use Rattle.std.proofs.Common.{◌≡◌, ◌∙◌, ◌==◌, ◌+◌, ◌≤◌, ◌||◌, ℕ, Bool, true, false, List, [], ◌∷◌, ◌++◌, length, length-append, Result, Ok, Err, codes, refl, sym, ap, subst, arith, lit<}
use Rattle.std.specs.Prelude.{if◌then◌else◌, nat_lt}
use Rattle.std.specs.List.{list_any}
use Rattle.std.proofs.lemmas.Bool.{false≢true}
use Rattle.std.proofs.lemmas.Bool.Decides.{nat_tests}
use Rattle.ens_base.specs.Lists.{AreDistinct, same_bytes}
use Rattle.ens_base.specs.Results.{◌>>=◌}
use Rattle.lexemes.specs.Words.{number_of, words_of}
use Rattle.lexemes.specs.declared.cause.Cause.{Cause}
use Rattle.lexemes.specs.declared.cause.Cause.TheVariants.{Repeated, TooLong, Unfinished, Unknown}
use Rattle.lexemes.proofs.Dotted.{number_of-ok}
use Rattle.lexemes.proofs.Joined.{AreWords, parts_of-join}
use Rattle.lexemes.proofs.Results.{bind_ok}
use Rattle.schedule_text.specs.Arguments.{one_of}
use Rattle.schedule_text.specs.Errors.{at_line}
use Rattle.schedule_text.specs.Events.{event_of, line_limit}
use Rattle.schedule_text.specs.Progress.{is_call}
use Rattle.schedule_text.specs.Progress as progress
use Rattle.schedule_text.specs.Reading.{bounded, most_lines}
use Rattle.schedule_text.specs.Spelling.{call_ids, event_line, event_words}
use Rattle.schedule_text.specs.declared.error.ScheduleError.{ScheduleError}
use Rattle.schedule_text.specs.declared.error.ScheduleError.TheVariants.{Lines}
use Rattle.schedule_text.specs.declared.event.ScheduleEvent.{ScheduleEvent}
use Rattle.schedule_text.specs.declared.event.ScheduleEvent.TheVariants.{Call, Tick, Deliver, Pass, Lose, Calm, CalmAmong, Change, Stop, Start, Upgrade, Deepen, Spoil, Damage, Inner, Revert, Fail}
use Rattle.schedule_text.proofs.EventsRead.{event_of-ok}
use Rattle.schedule_text.proofs.Ids.{distinct_with}
use Rattle.schedule_text.proofs.OneLine.{event_are_words}
use Rattle.schedule_text.proofs.SchedulesRead.{at_line_ok}
use Rattle.scripts.specs.Scripts.{AllMayBeLines, IsScript, IsScripted, MayBeLine, calls_id, ended, is_repeated, is_scripted, line_of, next_line, script_events, scripted_of, turn_of, with_line, words_line}
use Rattle.scripts.specs.declared.line.ScriptLine.{ScriptLine}
use Rattle.scripts.specs.declared.line.ScriptLine.TheVariants.{Event, Turn}
use Rattle.scripts.proofs.ClusterRefusing.{from_test}

-- ---- an event of a script begins with one of five words

first_is : (word first : List ℕ) (more words : List (List ℕ)) → word ∷ more ≡ first ∷ words → is_scripted first ≡ true → is_scripted word ≡ true
first_is word first more words same is = let w : word ≡ first = cc in rw w is

no_word : {P : Type 0} (word first : List ℕ) (more words : List (List ℕ)) → is_scripted word ≡ false → word ∷ more ≡ first ∷ words → is_scripted first ≡ true → P
no_word word first more words other same is = absurd (false≢true (sym other ∙ first_is word first more words same is))

scripted_words : (event : ScheduleEvent) (first : List ℕ) (words : List (List ℕ)) → event_words event ≡ first ∷ words → is_scripted first ≡ true → IsScripted event
scripted_words (Call peer id key command) first words same is = tt
scripted_words (Tick peer ticks) first words same is = tt
scripted_words (Deliver message) first words same is = no_word _ first _ words refl same is
scripted_words (Pass sender receiver) first words same is = no_word _ first _ words refl same is
scripted_words (Lose sender receiver) first words same is = no_word _ first _ words refl same is
scripted_words Calm first words same is = no_word _ first _ words refl same is
scripted_words (CalmAmong members) first words same is = no_word _ first _ words refl same is
scripted_words (Change peer view) first words same is = tt
scripted_words (Stop peer) first words same is = tt
scripted_words (Start peer) first words same is = tt
scripted_words (Upgrade peer) first words same is = no_word _ first _ words refl same is
scripted_words Deepen first words same is = no_word _ first _ words refl same is
scripted_words (Spoil peer key bytes) first words same is = no_word _ first _ words refl same is
scripted_words (Damage peer key bytes) first words same is = no_word _ first _ words refl same is
scripted_words (Inner peer level index bytes) first words same is = no_word _ first _ words refl same is
scripted_words (Revert peer changes) first words same is = no_word _ first _ words refl same is
scripted_words (Fail peer store survivor) first words same is = no_word _ first _ words refl same is

-- the words of a line that spells an event
words_again : (event : ScheduleEvent) → AreWords 32 (event_words event) → words_of (event_line event) ≡ event_words event
words_again (Call peer id key command) are = parts_of-join 32 _ _ are
words_again (Tick peer ticks) are = parts_of-join 32 _ _ are
words_again (Deliver message) are = parts_of-join 32 _ _ are
words_again (Pass sender receiver) are = parts_of-join 32 _ _ are
words_again (Lose sender receiver) are = parts_of-join 32 _ _ are
words_again Calm are = parts_of-join 32 _ _ are
words_again (CalmAmong members) are = parts_of-join 32 _ _ are
words_again (Change peer view) are = parts_of-join 32 _ _ are
words_again (Stop peer) are = parts_of-join 32 _ _ are
words_again (Start peer) are = parts_of-join 32 _ _ are
words_again (Upgrade peer) are = parts_of-join 32 _ _ are
words_again Deepen are = parts_of-join 32 _ _ are
words_again (Spoil peer key bytes) are = parts_of-join 32 _ _ are
words_again (Damage peer key bytes) are = parts_of-join 32 _ _ are
words_again (Inner peer level index bytes) are = parts_of-join 32 _ _ are
words_again (Revert peer changes) are = parts_of-join 32 _ _ are
words_again (Fail peer store survivor) are = parts_of-join 32 _ _ are

module _ (peers : ℕ) (few : peers ≤ 31) where
  event_stands : (text first : List ℕ) (words : List (List ℕ)) (event : ScheduleEvent) → words_of text ≡ first ∷ words → is_scripted first ≡ true → event_of peers text ≡ Ok event → MayBeLine peers (Event event)
  event_stands text first words event are is read =
      let spelled = event_of-ok peers text event few read in
      let same : event_words event ≡ first ∷ words = sym (words_again event (event_are_words 32 peers event (lit< tt) few spelled.1)) ∙ ap words_of (sym spelled.0) ∙ are in
      (scripted_words event first words same is, spelled.1)

  turn_stands : (words : List (List ℕ)) (line : ScriptLine) → turn_of words ≡ Ok line → MayBeLine peers line
  turn_stands words line read =
      let word = bind_ok (one_of words) _ line read in
      let count = bind_ok (number_of 1 100000 word.0) _ line word.2 in
      let within = number_of-ok 1 100000 word.0 count.0 (lit< tt) count.1 in
      let same : Turn count.0 ≡ line = cc count.2 in
      subst (MayBeLine peers) same (within.1, within.2)

  scripted_stands : (text first : List ℕ) (words : List (List ℕ)) (line : ScriptLine) (b : Bool) → is_scripted first ≡ b → words_of text ≡ first ∷ words → (if b then scripted_of peers text else Err Unknown) ≡ Ok line → MayBeLine peers line
  scripted_stands text first words line false is are read = absurd cc
  scripted_stands text first words line true is are read =
      let event = bind_ok (event_of peers text) _ line read in
      let same : Event event.0 ≡ line = cc event.2 in
      subst (MayBeLine peers) same (event_stands text first words event.0 are is event.1)

  words_stand : (text : List ℕ) (words : List (List ℕ)) (line : ScriptLine) → words_of text ≡ words → words_line peers text words ≡ Ok line → MayBeLine peers line
  words_stand text [] line are read = absurd cc
  words_stand text (first ∷ words) line are read = by (same_bytes first (codes "turn")) read
    where
      by : (b : Bool) → (if b then turn_of words else if is_scripted first then scripted_of peers text else Err Unknown) ≡ Ok line → MayBeLine peers line
      by true h = turn_stands words line h
      by false h = scripted_stands text first words line (is_scripted first) refl are h

  line_stands : (text : List ℕ) (line : ScriptLine) → line_of peers text ≡ Ok line → MayBeLine peers line
  line_stands text line read = by (nat_lt line_limit (length text)) read
    where
      by : (b : Bool) → (if b then Err TooLong else words_line peers text (words_of text)) ≡ Ok line → MayBeLine peers line
      by true h = absurd cc
      by false h = words_stand text (words_of text) line refl h

-- ---- one line more

all_stand : (peers : ℕ) (lines : List ScriptLine) (line : ScriptLine) → AllMayBeLines peers lines → MayBeLine peers line → AllMayBeLines peers (lines ++ line ∷ [])
all_stand peers [] line h k = (k, tt)
all_stand peers (l ∷ lines) line h k = (h.0, all_stand peers lines line h.1 k)

event_last : (lines : List ScriptLine) (event : ScheduleEvent) → script_events (lines ++ Event event ∷ []) ≡ script_events lines ++ event ∷ []
event_last [] event = refl
event_last (Event e ∷ lines) event = ap (λ (l : List ScheduleEvent). e ∷ l) (event_last lines event)
event_last (Turn count ∷ lines) event = event_last lines event

turn_last : (lines : List ScriptLine) (count : ℕ) → script_events (lines ++ Turn count ∷ []) ≡ script_events lines
turn_last [] count = refl
turn_last (Event e ∷ lines) count = ap (λ (l : List ScheduleEvent). e ∷ l) (turn_last lines count)
turn_last (Turn n ∷ lines) count = turn_last lines count

-- a call came before in the lines exactly if it did so among their events
called_same : (id : ℕ) (lines : List ScriptLine) → list_any (is_call id) (script_events lines) ≡ list_any (calls_id id) lines
called_same id [] = refl
called_same id (Event (Call peer i key command) ∷ lines) = ap (λ (b : Bool). (i == id) || b) (called_same id lines)
called_same id (Event event ∷ lines) = called_same id lines
called_same id (Turn count ∷ lines) = called_same id lines

repeated_same : (lines : List ScriptLine) (event : ScheduleEvent) → is_repeated lines (Event event) ≡ false → progress.is_repeated (script_events lines) event ≡ false
repeated_same lines (Call peer id key command) once = called_same id lines ∙ once
repeated_same lines event once = refl

distinct_last : (lines : List ScriptLine) (line : ScriptLine) → is_repeated lines line ≡ false → AreDistinct (call_ids (script_events lines)) → AreDistinct (call_ids (script_events (lines ++ line ∷ [])))
distinct_last lines (Event event) once old = rw (event_last lines event) (distinct_with (script_events lines) event old (repeated_same lines event once))
distinct_last lines (Turn count) once old = rw (turn_last lines count) old

added : (lines new : List ScriptLine) (line : ScriptLine) → with_line lines line ≡ Ok new → (is_repeated lines line ≡ false) × (new ≡ lines ++ line ∷ [])
added lines new line h = by (is_repeated lines line) refl h
  where
    by : (b : Bool) → is_repeated lines line ≡ b → ◌≡◌ {A = Result (List ScriptLine) Cause} (if b then Err Repeated else Ok (lines ++ line ∷ [])) (Ok new) → (is_repeated lines line ≡ false) × (new ≡ lines ++ line ∷ [])
    by true is h = absurd cc
    by false is h = (is, cc)

more_lines : (n : ℕ) → n ≤ 200000 → (n == most_lines) ≡ false → n + 1 ≤ 200000
more_lines n few other = grind (arith, nat_tests, few, other)

not_full : {A : Type 0} (n : ℕ) (r : Result A ScheduleError) (x : A) → (if n == most_lines then Err Lines else r) ≡ Ok x → (n == most_lines) ≡ false
not_full n r x h = by (n == most_lines) h
  where
    by : (b : Bool) → (if b then Err Lines else r) ≡ Ok x → b ≡ false
    by true h = absurd cc
    by false h = refl

-- what a step that succeeds began with
begun_with : {A B G : Type 0} (r : Result A Cause) (f : A → Result B Cause) (q : B) → (r >>= f) ≡ Ok q → ((x : A) → r ≡ Ok x → f x ≡ Ok q → G) → G
begun_with (Ok x) f q h go = go x refl h
begun_with (Err c) f q h go = absurd cc

-- a script with one line more is a script
pub next_stands : (peers : ℕ) (old new : List ScriptLine) (text : List ℕ) → peers ≤ 31 → next_line peers old text ≡ Ok new → IsScript peers old → IsScript peers new
next_stands peers old new text few next is =
    begun_with (line_of peers text) (with_line old) new (at_line_ok (length old + 1) (line_of peers text >>= with_line old) new (from_test (length old == most_lines) (at_line (length old + 1) (line_of peers text >>= with_line old)) new next))
    (λ line read with. by line (line_stands peers few text line read) (added old new line with))
  where
    by : (line : ScriptLine) → MayBeLine peers line → (is_repeated old line ≡ false) × (new ≡ old ++ line ∷ []) → IsScript peers new
    by line may put = subst (IsScript peers) (sym put.1) (record {
      may = all_stand peers old line is.may may;
      distinct = distinct_last old line put.0 is.distinct;
      few = omega (arith, length-append old (line ∷ []), more_lines (length old) is.few (not_full (length old) _ new next));
    })

-- a script that has ended has its lines
pub ended_same : (lines script : List ScriptLine) (rest : List ℕ) → ended lines rest ≡ Ok script → script ≡ lines
ended_same lines script [] h = cc
ended_same lines script (byte ∷ rest) h = by (length lines == most_lines) h
  where
    no_line : (b : Bool) → at_line (length lines + 1) (if b then Err TooLong else Err Unfinished) ≡ Ok script → script ≡ lines
    no_line true h = absurd cc
    no_line false h = absurd cc

    by : (b : Bool) → (if b then Err Lines else at_line (length lines + 1) (bounded (byte ∷ rest) (Err Unfinished))) ≡ Ok script → script ≡ lines
    by true h = absurd cc
    by false h = no_line (nat_lt line_limit (length (byte ∷ rest))) h

pub ended_stands : (peers : ℕ) (lines script : List ScriptLine) (rest : List ℕ) → ended lines rest ≡ Ok script → IsScript peers lines → IsScript peers script
ended_stands peers lines script rest h is = subst (IsScript peers) (sym (ended_same lines script rest h)) is

pub nothing_stands : (peers : ℕ) → IsScript peers []
nothing_stands peers = record { may = tt; distinct = tt; few = omega arith }
