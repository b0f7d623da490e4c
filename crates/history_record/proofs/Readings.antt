-- Reading a record, line by line.
use Rattle.std.proofs.Common.{◌≡◌, ℕ, ◌+◌, ◌<◌, List, [], ◌∷◌, ◌++◌, length, get_or, drop, map, Result, Ok, Err, refl, sym, ap, ◌∙◌, append_assoc, append-nil}
use Rattle.std.proofs.lemmas.List.{drop_more}
use Rattle.ens_base.specs.Results.{◌>>=◌}
use Rattle.schedule_text.specs.Texts.{texts, Word}
use Rattle.schedule_text.specs.declared.event.ScheduleEvent.TheVariants as line
use Rattle.history_record.specs.Kept.{IsSound}
use Rattle.history_record.specs.Lines.{ids_from, number}
use Rattle.history_record.specs.Reading.{Stage, and_then, next_stage, read_parts}
use Rattle.history_record.specs.Records.{IsRecord}
use Rattle.history_record.specs.Telling.{Heard}
use Rattle.history_record.specs.declared.error.AuditError.{AuditError}
use Rattle.history_record.specs.declared.flaw.Flaw.{Flaw}
use Rattle.history_record.specs.declared.record.Record.{Record}

-- ## The ids of a history

abbrev Ids : Type 0
Ids = Result (List ℕ) Flaw

after : (r : Ids) (items : List ℕ) (id : ℕ) → ((r >>= λ ids. Ok (id ∷ ids)) >>= λ rest. Ok (items ++ rest)) ≡ (r >>= λ rest. Ok ((items ++ id ∷ []) ++ rest))
after (Ok ids) items id = ap Ok (sym (append_assoc items (id ∷ []) ids))
after (Err flaw) items id = refl

module _ (words : List Word) (n : ℕ) (word : Word) (lt : n < length words) (at : word ≡ get_or words n word) (items : List ℕ) (whole : Ids) (so_far : (ids_from (texts (drop n words)) >>= λ rest. Ok (items ++ rest)) ≡ whole) where
  here : (number word.now >>= λ id. ids_from (texts (drop (n + 1) words)) >>= λ ids. Ok (id ∷ ids)) >>= (λ rest. Ok (items ++ rest)) ≡ whole
  here = sym (ap (λ (l : List Word). ids_from (texts l) >>= λ rest. Ok (items ++ rest)) (drop_more words n word lt ∙ ap (λ (w : Word). w ∷ drop (n + 1) words) (sym at))) ∙ so_far

-- ## The lines

read_step : (stage : Stage) (text : List ℕ) (xs : List (List ℕ)) (rest : List ℕ) → read_parts stage (text ∷ (xs ++ rest ∷ [])) ≡ and_then (next_stage stage text) (λ s. read_parts s (xs ++ rest ∷ []))
read_step stage text [] rest = refl
read_step stage text (x ∷ xs) rest = refl

texts_end : (ws : List Word) (rest : Word) → texts (ws ++ rest ∷ []) ≡ texts ws ++ rest.now ∷ []
texts_end [] rest = refl
texts_end (w ∷ ws) rest = ap (λ (l : List (List ℕ)). w.now ∷ l) (texts_end ws rest)

module _ (lines : List Word) (n : ℕ) (line rest : Word) (lt : n < length lines) (at : line ≡ get_or lines n line) (old : Stage) (whole : Result Record AuditError) (so_far : read_parts old (texts (drop n lines ++ rest ∷ [])) ≡ whole) where
  this : and_then (next_stage old line.now) (λ s. read_parts s (texts (drop (n + 1) lines ++ rest ∷ []))) ≡ whole
  this =
      ap (λ (l : List (List ℕ)). and_then (next_stage old line.now) (λ s. read_parts s l)) (texts_end (drop (n + 1) lines) rest) ∙ sym (read_step old line.now (texts (drop (n + 1) lines)) rest.now)
      ∙ ap (λ (l : List (List ℕ)). read_parts old (line.now ∷ l)) (sym (texts_end (drop (n + 1) lines) rest))
      ∙ sym (ap (λ (l : List Word). read_parts old (texts (l ++ rest ∷ []))) (drop_more lines n line lt ∙ ap (λ (w : Word). w ∷ drop (n + 1) lines) (sym at))) ∙ so_far

  pub line_taken : (new : Stage) → next_stage old line.now ≡ Ok new → read_parts new (texts (drop (n + 1) lines ++ rest ∷ [])) ≡ whole
  line_taken new e = sym (ap (λ (r : Result Stage AuditError). and_then r (λ s. read_parts s (texts (drop (n + 1) lines ++ rest ∷ [])))) e) ∙ this

-- ## The end

pub sound_record : (h : Heard) → IsSound h → h.keys ≡ [] → IsRecord (record { schedule = h.schedule; answers = h.answers; histories = h.histories })
sound_record h sound none = record {
  calls = sound.schedule.calls;
  answers = sound.answers;
  in_order = sound.in_order;
  keys = sym (append-nil (map (λ history. history.key) h.histories)) ∙ sym (ap (λ (l : List (List ℕ)). map (λ history. history.key) h.histories ++ l) none) ∙ sound.keys;
}
