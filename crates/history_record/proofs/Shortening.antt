-- Records that are alike once their histories are shortened: reading goes on alike.
use Rattle.std.proofs.Common.{◌≡◌, ℕ, ◌+◌, Bool, true, false, List, [], ◌∷◌, ◌++◌, length, get_or, map, suc, zero, Option, None, Some, Result, Ok, Err, refl, sym, ap, ◌∙◌, lit≤, ◌≤◌, arith}
use Rattle.std.specs.Prelude.{slice_set, ◌==◌, ◌||◌, nat_lt, if◌then◌else◌}
use Rattle.ens_base.specs.Lists.{same_bytes}
use Rattle.ens_base.specs.Results.{◌>>=◌}
use Rattle.register_model.specs.declared.answer.Answer.{Answer}
use Rattle.register_model.specs.declared.call.Call.{Call}
use Rattle.register_model.specs.declared.history.History.{History}
use Rattle.history_record.specs.Clauses.{first_stray}
use Rattle.history_record.specs.Shortened.{short_by, shortened}
use Rattle.history_record.proofs.Shortened.{short_again, short_key}
use Rattle.history_record.specs.Calls.{calls_from}
use Rattle.history_record.specs.Kept.{IsSound}
use Rattle.history_record.specs.Lines.{line_of}
use Rattle.history_record.specs.Reading.{Stage, Before, Behind, and_then, behind, closed, end_stage, lines_of, most_in, next_stage, read_parts}
use Rattle.history_record.specs.ShortRecords.{short_heard, short_last, short_next, short_record, short_result, short_stage, stage_with_short_last}
use Rattle.history_record.specs.Telling.{Heard, has_history, next_heard, open_call, open_change, with_answer, with_change, with_history, with_line}
use Rattle.history_record.specs.declared.error.AuditError.{AuditError}
use Rattle.history_record.specs.declared.flaw.Flaw.{Flaw}
use Rattle.history_record.specs.declared.lines.RecordLine.{RecordLine}
use Rattle.history_record.specs.declared.lines.RecordLine.TheVariants.{Answered, Changed, Told}
use Rattle.history_record.specs.declared.record.Record.{Record}

-- ## Lists of histories

module _ (calls : List Call) where
  again : (hs : List History) → map (shortened calls) (map (shortened calls) hs) ≡ map (shortened calls) hs
  again [] = refl
  again (h ∷ hs) = λ i. short_again calls h i ∷ again hs i

  -- one history more
  told_more : (hs : List History) (h : History) → map (shortened calls) (map (shortened calls) hs ++ h ∷ []) ≡ map (shortened calls) (hs ++ h ∷ [])
  told_more [] h = refl
  told_more (g ∷ hs) h = λ i. short_again calls g i ∷ told_more hs h i

  last_alike : (hs : List History) → map (shortened calls) (short_last calls hs) ≡ map (shortened calls) hs
  last_alike [] = refl
  last_alike (h ∷ []) = λ i. short_again calls h i ∷ []
  last_alike (h ∷ g ∷ more) = ap (λ (l : List History). shortened calls h ∷ l) (last_alike (g ∷ more))

  pub last_keys : (hs : List History) → map (λ h. h.key) (short_last calls hs) ≡ map (λ h. h.key) hs
  last_keys [] = refl
  last_keys (h ∷ []) = ap (λ (k : List ℕ). k ∷ []) (short_key calls h)
  last_keys (h ∷ g ∷ more) = ap (λ (l : List (List ℕ)). h.key ∷ l) (last_keys (g ∷ more))

  -- the last history has this stray id
  pub last_set : (hs : List History) (m id : ℕ) (d e : History) (ids : List ℕ) → length hs ≡ m + 1 → d ≡ get_or hs m d → e ≡ get_or hs m e → ids ≡ id ∷ id ∷ [] → first_stray calls d.key d.calls ≡ Some id
      → slice_set hs m (record { key = e.key; calls = ids }) ≡ short_last calls hs
  last_set [] m id d e ids len at also is stray = absurd (omega (arith, len))
  last_set (h ∷ []) zero id d e ids len at also is stray = ap (λ (x : History). x ∷ []) (set ∙ ap (short_by h) (sym stray) ∙ ap (λ (x : History). short_by h (first_stray calls x.key x.calls)) at)
    where
      set : record { key = e.key; calls = ids } ≡ short_by h (Some id)
      set = λ i. record { key = (also i).key; calls = is i }
  last_set (h ∷ []) (suc m) id d e ids len at also is stray = absurd (omega (arith, len))
  last_set (h ∷ g ∷ more) zero id d e ids len at also is stray = absurd (omega (arith, len))
  last_set (h ∷ g ∷ more) (suc m) id d e ids len at also is stray = ap (λ (l : List History). h ∷ l) (last_set (g ∷ more) m id d e ids (omega (arith, len)) at also is stray)

  -- the last history has none
  pub last_kept : (hs : List History) (m : ℕ) (d : History) → length hs ≡ m + 1 → d ≡ get_or hs m d → first_stray calls d.key d.calls ≡ None → hs ≡ short_last calls hs
  last_kept [] m d len at none = refl
  last_kept (h ∷ []) zero d len at none = ap (λ (x : History). x ∷ []) (ap (short_by h) (sym none) ∙ ap (λ (x : History). short_by h (first_stray calls x.key x.calls)) at)
  last_kept (h ∷ []) (suc m) d len at none = absurd (omega (arith, len))
  last_kept (h ∷ g ∷ more) zero d len at none = absurd (omega (arith, len))
  last_kept (h ∷ g ∷ more) (suc m) d len at none = ap (λ (l : List History). h ∷ l) (last_kept (g ∷ more) m d (omega (arith, len)) at none)

-- what was told is as sound once the last history is shortened
pub short_sound : (h : Heard) → IsSound h → (hs : List History) → hs ≡ short_last (calls_from 1 h.schedule.events) h.histories → IsSound (record h { histories = hs })
short_sound h sound hs is = record {
  schedule = sound.schedule;
  answers = sound.answers;
  in_order = sound.in_order;
  keys = ap (λ (l : List History). map (λ x. x.key) l ++ h.keys) is ∙ ap (λ (l : List (List ℕ)). l ++ h.keys) (last_keys (calls_from 1 h.schedule.events) h.histories) ∙ sound.keys;
}

-- ## Stages

pub last_stage : (s : Stage) → short_stage (stage_with_short_last s) ≡ short_stage s
last_stage (Before p) = refl
last_stage (Behind h) = ap (λ (hs : List History). Behind (record h { histories = hs })) (last_alike (calls_from 1 h.schedule.events) h.histories)

pub last_lines : (s : Stage) → lines_of (stage_with_short_last s) ≡ lines_of s
last_lines (Before p) = refl
last_lines (Behind h) = refl

pub last_most : (s : Stage) → most_in (stage_with_short_last s) ≡ most_in s
last_most (Before p) = refl
last_most (Behind h) = refl

pub most_alike : (s t : Stage) → short_stage s ≡ short_stage t → most_in s ≡ most_in t
most_alike s t e = sym (short s) ∙ ap most_in e ∙ short t
  where
    short : (s : Stage) → most_in (short_stage s) ≡ most_in s
    short (Before p) = refl
    short (Behind h) = refl

has_told : (calls : List Call) (hs : List History) → has_history (map (shortened calls) hs) ≡ has_history hs
has_told calls [] = refl
has_told calls (h ∷ hs) = refl

-- ## One more line

module _ (h : Heard) where
  abbrev calls : List Call
  calls = calls_from 1 h.schedule.events

  abbrev short_read : Result Heard Flaw → Result Stage AuditError
  short_read r = short_next (behind h.lines r)

  answer_alike : (a : Answer) (o : Option ℕ) → short_read (with_answer (short_heard h) a o) ≡ short_read (with_answer h a o)
  answer_alike a None = refl
  answer_alike a (Some called) = by (nat_lt a.event called || nat_lt (length h.schedule.events) a.event || nat_lt a.event h.latest)
    where
      next : List History → Stage
      next hs = Behind (record h { lines = h.lines + 1; answers = h.answers ++ a ∷ []; latest = a.event; histories = hs })

      by : (b : Bool)
          → short_read (if b then Err Flaw.Time else Ok (record (short_heard h) { lines = h.lines + 1; answers = h.answers ++ a ∷ []; latest = a.event }))
          ≡ short_read (if b then Err Flaw.Time else Ok (record h { lines = h.lines + 1; answers = h.answers ++ a ∷ []; latest = a.event }))
      by true = refl
      by false = ap (λ (hs : List History). Ok (next hs)) (again calls h.histories)

  change_alike : (event peer : ℕ) (o : Option ℕ) → short_read (with_change (short_heard h) event peer o) ≡ short_read (with_change h event peer o)
  change_alike event peer None = refl
  change_alike event peer (Some asked) = by (asked == peer) (nat_lt event h.latest)
    where
      next : List History → Stage
      next hs = Behind (record h { lines = h.lines + 1; changes = h.changes ++ event ∷ []; latest = event; histories = hs })

      by : (b late : Bool)
          → short_read (if b then (if late then Err Flaw.Time else Ok (record (short_heard h) { lines = h.lines + 1; changes = h.changes ++ event ∷ []; latest = event })) else Err Flaw.Subject)
          ≡ short_read (if b then (if late then Err Flaw.Time else Ok (record h { lines = h.lines + 1; changes = h.changes ++ event ∷ []; latest = event })) else Err Flaw.Subject)
      by true true = refl
      by true false = ap (λ (hs : List History). Ok (next hs)) (again calls h.histories)
      by false late = refl

  history_alike : (history : History) (keys : List (List ℕ)) → short_read (with_history (short_heard h) history keys) ≡ short_read (with_history h history keys)
  history_alike history [] = refl
  history_alike history (key ∷ keys) = by (same_bytes history.key key)
    where
      next : List History → Stage
      next hs = Behind (record h { lines = h.lines + 1; histories = hs; keys = keys })

      by : (b : Bool)
          → short_read (if b then Ok (record (short_heard h) { lines = h.lines + 1; histories = map (shortened calls) h.histories ++ history ∷ []; keys = keys }) else Err Flaw.Key)
          ≡ short_read (if b then Ok (record h { lines = h.lines + 1; histories = h.histories ++ history ∷ []; keys = keys }) else Err Flaw.Key)
      by true = ap (λ (hs : List History). Ok (next hs)) (told_more calls h.histories history)
      by false = refl

  line_alike : (line : RecordLine) → short_read (with_line (short_heard h) line) ≡ short_read (with_line h line)
  line_alike (Answered a) = answer_alike a (open_call h a.id)
  line_alike (Changed event peer) = change_alike event peer (open_change h event)
  line_alike (Told history) = history_alike history h.keys

  heard_alike : (text : List ℕ) → short_read (next_heard (short_heard h) text) ≡ short_read (next_heard h text)
  heard_alike text =
      ap (λ (b : Bool). short_read (line_of b text >>= λ line. with_line (short_heard h) line)) (has_told calls h.histories)
      ∙ by (line_of (has_history h.histories) text)
    where
      by : (r : Result RecordLine Flaw) → short_read (r >>= λ line. with_line (short_heard h) line) ≡ short_read (r >>= λ line. with_line h line)
      by (Ok line) = line_alike line
      by (Err flaw) = refl

next_short : (s : Stage) (text : List ℕ) → short_next (next_stage (short_stage s) text) ≡ short_next (next_stage s text)
next_short (Before p) text = refl
next_short (Behind h) text = heard_alike h text

module _ (s t : Stage) (e : short_stage s ≡ short_stage t) where
  next_both : (text : List ℕ) → short_next (next_stage s text) ≡ short_next (next_stage t text)
  next_both text = sym (next_short s text) ∙ ap (λ (u : Stage). short_next (next_stage u text)) e ∙ next_short t text

  -- a line that one of them takes, the other one takes too
  pub next_alike : (text : List ℕ) (v : Stage) → next_stage t text ≡ Ok v → (u : Stage) × (next_stage s text ≡ Ok u) × (short_stage u ≡ short_stage v)
  next_alike text v ok = by (next_stage s text) refl (next_both text ∙ ap short_next ok)
    where
      by : (r : Result Stage AuditError) → next_stage s text ≡ r → short_next r ≡ Ok (short_stage v) → (u : Stage) × (next_stage s text ≡ Ok u) × (short_stage u ≡ short_stage v)
      by (Ok u) is same = (u, is, cc same)
      by (Err f) is same = absurd (cc same)

-- the next line may have as many bytes as this one, or more
pub most_grows : (s t : Stage) (v : List ℕ) → next_stage s v ≡ Ok t → most_in s ≤ most_in t
most_grows (Before p) (Before q) v ok = lit≤ tt
most_grows (Before p) (Behind h) v ok = lit≤ tt
most_grows (Behind h) (Behind g) v ok = lit≤ tt
most_grows (Behind h) (Before q) v ok = absurd (by (next_heard h v) ok)
  where
    by : (r : Result Heard Flaw) → behind h.lines r ≡ Ok (Before q) → ⊥
    by (Ok g) is = cc is
    by (Err flaw) is = cc is

-- ## The lines to come

end_short : (s : Stage) (rest : List ℕ) → short_result (end_stage (short_stage s) rest) ≡ short_result (end_stage s rest)
end_short (Before p) rest = refl
end_short (Behind h) [] = by h.keys
  where
    by : (keys : List (List ℕ)) → short_result (closed (short_heard h) keys) ≡ short_result (closed h keys)
    by [] = ap (λ (hs : List History). Ok (record { schedule = h.schedule; answers = h.answers; histories = hs })) (again (calls_from 1 h.schedule.events) h.histories)
    by (key ∷ keys) = refl
end_short (Behind h) (b ∷ rest) = refl

-- what follows a line
followed : (a b : Result Stage AuditError) (k : Stage → Result Record AuditError) → short_next a ≡ short_next b → ((s t : Stage) → short_stage s ≡ short_stage t → short_result (k s) ≡ short_result (k t))
    → short_result (and_then a k) ≡ short_result (and_then b k)
followed (Ok s) (Ok t) k e alike = alike s t (cc e)
followed (Ok s) (Err f) k e alike = absurd (cc e)
followed (Err f) (Ok t) k e alike = absurd (cc e)
followed (Err f) (Err g) k e alike = let same : f ≡ g = cc e in ap (λ (x : AuditError). Err x) same

pub parts_alike : (parts : List (List ℕ)) (s t : Stage) → short_stage s ≡ short_stage t → short_result (read_parts s parts) ≡ short_result (read_parts t parts)
parts_alike [] s t e = sym (end_short s []) ∙ ap (λ (u : Stage). short_result (end_stage u [])) e ∙ end_short t []
parts_alike (rest ∷ []) s t e = sym (end_short s rest) ∙ ap (λ (u : Stage). short_result (end_stage u rest)) e ∙ end_short t rest
parts_alike (text ∷ next ∷ more) s t e = followed (next_stage s text) (next_stage t text) (λ u. read_parts u (next ∷ more)) (next_both s t e text) (parts_alike (next ∷ more))

pub short_like : (a : Result Record AuditError) (r : Record) → short_result a ≡ Ok (short_record r) → (told : Record) × (a ≡ Ok told) × (short_record told ≡ short_record r)
short_like (Ok told) r is = (told, refl, cc is)
short_like (Err e) r is = absurd (cc is)
